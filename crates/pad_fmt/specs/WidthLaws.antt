-- For each type, under which options its width is exact: `exact` holds, and so its bytes are as many as its padded width says.
use Rattle.std.specs.Prelude.{◌≡◌, ℕ, suc, ℤ, ◌<◌, Bool, true, false, IsTrue, List, [], ◌∷◌, Option, None, refl, string_bytes}
use denote.Bor.{Bor}
use denote.RattleType.{RattleType}
use mir.Syntax.{Dict}
use Rattle.std.specs.{Global.{Global, Box}, Borrow.{MutBor}, declared.string.String.{String}, declared.borrow.CowStr.{CowStr}, declared.num.Wrapping.{Wrapping}, declared.rc.Rc.{Rc}, declared.sync.Arc.{Arc}, Arc.{arc_value}, Cow.{cow_str_bytes}}
use Rattle.std.specs.{Char.{is_ascii}, Option.{is_none}, Str.{IsAscii}}
use Rattle.std.proofs.{Common.{arith, ap}, lemmas.Bool.{and_from, not_from_false}, lemmas.Bool.Decides.{nat_tests}}
use Rattle.pad_fmt.specs.{Exact.{is_ascii_text}, Options.{Options}, Padding.{HasPaddedWidth}, declared.smart_display.SmartDisplay.{Ghosts}, TextLaws.{buffer_law}, declared.text.Text.{Text}}
use Rattle.pad_fmt.specs.contracts.implementations.texts.BoolSmartDisplay.TheImpl as of_bool
use Rattle.pad_fmt.specs.contracts.implementations.texts.BoolSmartDisplay.TheImpl.Laws as laws_bool
use Rattle.pad_fmt.specs.contracts.implementations.texts.CharSmartDisplay.TheImpl as of_char
use Rattle.pad_fmt.specs.contracts.implementations.texts.CharSmartDisplay.TheImpl.Laws as laws_char
use Rattle.pad_fmt.specs.contracts.implementations.texts.TextSmartDisplay.TheImpl as of_text
use Rattle.pad_fmt.specs.contracts.implementations.texts.TextSmartDisplay.TheImpl.Laws as laws_text
use Rattle.pad_fmt.specs.contracts.implementations.texts.StringSmartDisplay.TheImpl as of_string
use Rattle.pad_fmt.specs.contracts.implementations.texts.StringSmartDisplay.TheImpl.Laws as laws_string
use Rattle.pad_fmt.specs.contracts.implementations.texts.CowStrGlobalSmartDisplay.TheImpl as of_cow
use Rattle.pad_fmt.specs.contracts.implementations.texts.CowStrGlobalSmartDisplay.TheImpl.Laws as laws_cow
use Rattle.pad_fmt.specs.contracts.implementations.texts.WriteBufferSmartDisplay.TheImpl as of_buffer
use Rattle.pad_fmt.specs.contracts.implementations.integers.U8SmartDisplay.TheImpl as of_u8
use Rattle.pad_fmt.specs.contracts.implementations.integers.U8SmartDisplay.TheImpl.Laws as laws_u8
use Rattle.pad_fmt.specs.contracts.implementations.integers.U16SmartDisplay.TheImpl as of_u16
use Rattle.pad_fmt.specs.contracts.implementations.integers.U32SmartDisplay.TheImpl as of_u32
use Rattle.pad_fmt.specs.contracts.implementations.integers.U64SmartDisplay.TheImpl as of_u64
use Rattle.pad_fmt.specs.contracts.implementations.integers.U128SmartDisplay.TheImpl as of_u128
use Rattle.pad_fmt.specs.contracts.implementations.integers.UsizeSmartDisplay.TheImpl as of_usize
use Rattle.pad_fmt.specs.contracts.implementations.integers.I8SmartDisplay.TheImpl as of_i8
use Rattle.pad_fmt.specs.contracts.implementations.integers.I8SmartDisplay.TheImpl.Laws as laws_i8
use Rattle.pad_fmt.specs.contracts.implementations.integers.I16SmartDisplay.TheImpl as of_i16
use Rattle.pad_fmt.specs.contracts.implementations.integers.I32SmartDisplay.TheImpl as of_i32
use Rattle.pad_fmt.specs.contracts.implementations.integers.I64SmartDisplay.TheImpl as of_i64
use Rattle.pad_fmt.specs.contracts.implementations.integers.I128SmartDisplay.TheImpl as of_i128
use Rattle.pad_fmt.specs.contracts.implementations.integers.IsizeSmartDisplay.TheImpl as of_isize
use Rattle.pad_fmt.specs.contracts.implementations.wrappers.RefSmartDisplay.TheImpl as of_ref
use Rattle.pad_fmt.specs.contracts.implementations.wrappers.RefMutSmartDisplay.TheImpl as of_mut
use Rattle.pad_fmt.specs.contracts.implementations.wrappers.WrappingSmartDisplay.TheImpl as of_wrapping
use Rattle.pad_fmt.specs.contracts.implementations.wrappers.RcSmartDisplay.TheImpl as of_rc
use Rattle.pad_fmt.specs.contracts.implementations.wrappers.ArcSmartDisplay.TheImpl as of_arc
use Rattle.pad_fmt.specs.contracts.implementations.wrappers.BoxSmartDisplay.TheImpl as of_box

-- the width that the value answers is exact under these options, and is that of its bytes
pub record IsExactAt {T M : Type 0} (shows : Ghosts T M) (value : T) (f : Options) : Type 0 where
  pub exact : IsTrue (shows.exact value f)
  pub width : HasPaddedWidth (shows.due value f) (shows.wide value f) f

-- what the words say, as tests
uncut : (precision : Option ℕ) → precision ≡ None → is_none precision ≡ true
uncut precision none = ap is_none none

ascii_char : (c : ℕ) → c < 128 → is_ascii c ≡ true
ascii_char c small = grind (arith, nat_tests)

ascii_text : (text : List ℕ) → IsAscii text → is_ascii_text text ≡ true
ascii_text [] ascii = refl
ascii_text (b ∷ text) ascii =
    and_from (is_ascii b) (is_ascii_text text) (ascii_char b (ascii 0)) (ascii_text text (λ i. ascii (suc i)))

pub bool_is_exact : (truth : Bool) (f : Options) → f.precision ≡ None → f.fill < 128 → IsExactAt of_bool.ghosts truth f
bool_is_exact truth f none fill =
    let exact = uncut f.precision none in
    record { exact = exact; width = laws_bool.width_law-law truth f exact fill }

pub char_is_exact : (c : ℕ) (f : Options) → c < 128 → f.precision ≡ None → f.fill < 128 → IsExactAt of_char.ghosts c f
char_is_exact c f small none fill =
    let exact = and_from (is_ascii c) (is_none f.precision) (ascii_char c small) (uncut f.precision none) in
    record { exact = exact; width = laws_char.width_law-law c f exact fill }

pub text_is_exact : (text : Text) (f : Options) → IsAscii text.0.now → f.fill < 128 → IsExactAt of_text.ghosts text f
text_is_exact text f ascii fill =
    let exact = ascii_text text.0.now ascii in
    record { exact = exact; width = laws_text.width_law-law text f exact fill }

pub string_is_exact : (text : String Global) (f : Options) → IsAscii (string_bytes text) → f.fill < 128 → IsExactAt of_string.ghosts text f
string_is_exact text f ascii fill =
    let exact = ascii_text (string_bytes text) ascii in
    record { exact = exact; width = laws_string.width_law-law text f exact fill }

pub cow_is_exact : (text : CowStr Global) (f : Options) → IsAscii (cow_str_bytes text) → f.fill < 128 → IsExactAt of_cow.ghosts text f
cow_is_exact text f ascii fill =
    let exact = ascii_text (cow_str_bytes text) ascii in
    record { exact = exact; width = laws_cow.width_law-law text f exact fill }

-- a buffer of any size
pub buffer_is_exact : (size : RattleType) (text : List ℕ) (f : Options) → IsAscii text → f.precision ≡ None → f.fill < 128
    → IsExactAt (of_buffer.ghosts size) text f
buffer_is_exact size text f ascii none fill =
    let exact = and_from (is_ascii_text text) (is_none f.precision) (ascii_text text ascii) (uncut f.precision none) in
    record { exact = exact; width = buffer_law text f exact fill }

-- the width of an unsigned number is exact without the flag `-`, and that of a signed one always, whatever its size
abbrev pub UnsignedIsExact : {M : Type 0} → Ghosts ℕ M → Type 0
UnsignedIsExact shows = (n : ℕ) (f : Options) → f.sign_minus ≡ false → f.fill < 128 → IsExactAt shows n f

unsigned_is_exact : UnsignedIsExact of_u8.ghosts
unsigned_is_exact n f none fill =
    let exact = not_from_false f.sign_minus none in
    record { exact = exact; width = laws_u8.width_law-law n f exact fill }

abbrev pub SignedIsExact : {M : Type 0} → Ghosts ℤ M → Type 0
SignedIsExact shows = (z : ℤ) (f : Options) → f.fill < 128 → IsExactAt shows z f

signed_is_exact : SignedIsExact of_i8.ghosts
signed_is_exact z f fill = record { exact = refl; width = laws_i8.width_law-law z f refl fill }

pub u8_is_exact : UnsignedIsExact of_u8.ghosts
u8_is_exact = unsigned_is_exact

pub u16_is_exact : UnsignedIsExact of_u16.ghosts
u16_is_exact = unsigned_is_exact

pub u32_is_exact : UnsignedIsExact of_u32.ghosts
u32_is_exact = unsigned_is_exact

pub u64_is_exact : UnsignedIsExact of_u64.ghosts
u64_is_exact = unsigned_is_exact

pub u128_is_exact : UnsignedIsExact of_u128.ghosts
u128_is_exact = unsigned_is_exact

pub usize_is_exact : UnsignedIsExact of_usize.ghosts
usize_is_exact = unsigned_is_exact

pub i8_is_exact : SignedIsExact of_i8.ghosts
i8_is_exact = signed_is_exact

pub i16_is_exact : SignedIsExact of_i16.ghosts
i16_is_exact = signed_is_exact

pub i32_is_exact : SignedIsExact of_i32.ghosts
i32_is_exact = signed_is_exact

pub i64_is_exact : SignedIsExact of_i64.ghosts
i64_is_exact = signed_is_exact

pub i128_is_exact : SignedIsExact of_i128.ghosts
i128_is_exact = signed_is_exact

pub isize_is_exact : SignedIsExact of_isize.ghosts
isize_is_exact = signed_is_exact

-- what leads to a value or holds it: where the width of the value is exact
module _ (T M : RattleType) (shows : Ghosts T.Denot M.Denot) (shows_table ends_table : Dict) where
  pub ref_is_exact : (value : Bor T.Denot) (f : Options) → IsExactAt shows value.now f
      → IsExactAt (of_ref.ghosts T M shows shows_table ends_table) value f
  ref_is_exact value f inside = record { exact = inside.exact; width = inside.width }

  pub mut_is_exact : (value : MutBor T.Denot) (f : Options) → IsExactAt shows value.now f
      → IsExactAt (of_mut.ghosts T M shows shows_table ends_table) value f
  mut_is_exact value f inside = record { exact = inside.exact; width = inside.width }

  pub wrapping_is_exact : (value : Wrapping T.Denot) (f : Options) → IsExactAt shows value.0 f
      → IsExactAt (of_wrapping.ghosts T M shows shows_table ends_table) value f
  wrapping_is_exact value f inside = record { exact = inside.exact; width = inside.width }

  pub rc_is_exact : (value : Rc T.Denot Global) (f : Options) → IsExactAt shows value.value f
      → IsExactAt (of_rc.ghosts T M shows shows_table ends_table) value f
  rc_is_exact value f inside = record { exact = inside.exact; width = inside.width }

  pub arc_is_exact : (value : Arc T.Denot Global) (f : Options) → IsExactAt shows (arc_value value) f
      → IsExactAt (of_arc.ghosts T M shows shows_table ends_table) value f
  arc_is_exact value f inside = record { exact = inside.exact; width = inside.width }

  pub box_is_exact : (value : Box T.Denot) (f : Options) → IsExactAt shows value.value f
      → IsExactAt (of_box.ghosts T M shows shows_table ends_table) value f
  box_is_exact value f inside = record { exact = inside.exact; width = inside.width }
