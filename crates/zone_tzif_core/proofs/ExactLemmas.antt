-- A file is read as what it denotes, or says.
use Rattle.std.proofs.{Common.{◌≡◌, ℕ, true, option_map, MatchOption, Bor, List, Option, Some, None, Result, Ok, Err, refl, sym, ◌∙◌, arith}, lemmas.Bool.Decides.{nat_tests}, lemmas.Option.{same_Some, none-some}}
use Rattle.zone_tzif_core.specs.{Denotes.{Denotes, Says, zone_file}, Format.{suits}, Reading.{said_in, zone_in}, Shown.{ReadsAs, TellsExactly}, ZoneFiles.{HasFooter}, Zones.{ZoneValue}, declared.header.Header.{Header}, declared.values.ReadFault.{ReadFault}}
use Rattle.zone_tzif_core.specs.declared.values.ReadFault.TheVariants.{Refused, NoMemory}
use Rattle.zone_tzif_core.proofs.{AgainLemmas.{denoted_again, said_again}, FoundLemmas.{denoted_found, said_found}}

-- a value is there exactly where a relation holds of it
pub record IsThe (Is : ZoneValue → Type 0) (value : Option ZoneValue) : Type 0 where
  pub again : (zone : ZoneValue) → Is zone → value ≡ Some zone
  pub found : (zone : ZoneValue) → value ≡ Some zone → Is zone

pub denoted : (bytes : List ℕ) → IsThe (Denotes bytes) (zone_in 52 bytes)
denoted bytes = record { again = denoted_again 52 bytes; found = denoted_found 52 bytes }

pub what_is_said : (bytes : List ℕ) → IsThe (Says bytes) (said_in bytes)
what_is_said bytes = record { again = said_again bytes; found = said_found bytes }

module _ {Is : ZoneValue → Type 0} where
  pub refused : (value : Option ZoneValue) → IsThe Is value → None ≡ value → (zone : ZoneValue) → ¬ (Is zone)
  refused value the none zone is = none-some zone (none ∙ the.again zone is)

  -- what an exact reader tells
  pub reads : {V : Type 0} (shown : V → ZoneValue) (value : Option ZoneValue) → IsThe Is value → (result : Result V ReadFault)
      → TellsExactly shown result value → ReadsAs shown Is result
  reads shown value the (Ok zone) told = the.found (shown zone) (sym told)
  reads shown value the (Err Refused) told = refused value the told
  reads shown (Some zone) the (Err NoMemory) told = (zone, the.found zone refl)
  reads shown None the (Err NoMemory) told = absurd cc

  -- and one that tells the footer
  pub reads_footer : (value : Option ZoneValue) → IsThe Is value → (result : Option (Bor (List ℕ)))
      → option_map (λ footer. footer.now) result ≡ option_map (λ zone. zone.footer) value
      → MatchOption result ((zone : ZoneValue) → ¬ (Is zone)) (λ footer. HasFooter Is footer.now)
  reads_footer (Some zone) the (Some footer) told = record { zone = zone; told = the.found zone refl; ends = same_Some zone.footer footer.now (sym told) }
  reads_footer None the (Some footer) told = absurd cc
  reads_footer (Some zone) the None told = absurd cc
  reads_footer None the None told = refused None the refl

  pub one : (value : Option ZoneValue) → IsThe Is value → (x y : ZoneValue) → Is x → Is y → x ≡ y
  one value the x y a b = same_Some x y (sym (the.again x a) ∙ the.again y b)

pub one_reading : (bytes : List ℕ) (x y : ZoneValue) → Denotes bytes x → Denotes bytes y → x ≡ y
one_reading bytes = one _ (denoted bytes)

pub one_saying : (bytes : List ℕ) (x y : ZoneValue) → Says bytes x → Says bytes y → x ≡ y
one_saying bytes = one _ (what_is_said bytes)

-- a version that is known is one that is taken
suits_more : (version : ℕ) (h : Header) → suits 52 version h ≡ true → suits 255 version h ≡ true
unfolding suits
suits_more version h is = grind (arith, nat_tests, is)

pub said : (bytes : List ℕ) (zone : ZoneValue) → Denotes bytes zone → Says bytes zone
said bytes zone is = zone_file (record {
  head = is.head;
  skipped = is.skipped;
  second_head = is.second_head;
  block = is.block;
  first_says = is.first_says;
  says = is.says;
  kinds = is.kinds;
  whole = is.whole;
  first_header = is.first_header;
  first_length = is.first_length;
  second_header = is.second_header;
  suited = suits_more is.first_says.version is.says is.suited;
  block_is = is.block_is;
  rising = is.rising;
  first_kind = is.first_kind;
  one_line = is.one_line;
  text = is.text;
})

pub same : (bytes : List ℕ) (x y : ZoneValue) → Denotes bytes x → Says bytes y → x ≡ y
same bytes x y a b = one_saying bytes x y (said bytes x a) b
