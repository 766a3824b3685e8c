-- Each line that is written is read as it is meant.
use Rattle.std.proofs.{Common.{◌≡◌, ℕ, List, ◌++◌, ◌≤◌, All, true, false, Result, Ok, Err, IfOk, refl, sym, subst, length, nat_lt, ap, ◌∙◌}, lemmas.Bool.{ltb-false}, lemmas.List.Elements.{All-weaker}}
use Rattle.zone_outside.specs.Limit.{text_limit}
use Rattle.zone_table.specs.Values.{LineValue}
use Rattle.zone_plain_lines.specs.{LineFaults.{LineFault, by_line}, MeantLaws.{then_ok, either}, SaidLaws.{read_back, one_line}}
use Rattle.zone_plain.proofs.{SettledSaidLaws.{settled_said}, NamedLaws.{is_named}, Followed.{are_followed}, PlacedLaws.{StaysFollowed, source_followed, settled_followed, out_followed}}
use Rattle.zone_plain.specs.{Settled.{settled}, SaidLaws.{written_out_said}, WrittenOut.{written_out}, Heads.{head_of}, LineValues.{values_in}, Named.{IsSaid, named_lines}, Plain.{plain_of}, ReadBack.{IsReadAsMeant, IsReadBack}, Written.{written}}

-- what can be said is read as it is meant
pub said_is_read : (v : LineValue) → IsSaid v → IsReadAsMeant v
said_is_read v said =
    let back = read_back v said in
    let line = one_line v said in
    record { text = back.0; line = record { unbroken = line.0; kept = line.1 }; read = back.1 }

-- what is written of a source, of lines that can be said, with each line of a zone in its place
pub record IsPlaced (source bytes : List ℕ) : Type 0 where
  pub back : IsReadBack source bytes
  pub values : values_in source ≡ Ok (named_lines back.meant)
  pub linked_said : All IsSaid back.linked
  pub said : All IsSaid back.out
  pub followed : are_followed false back.out ≡ true
  pub short : length bytes ≤ text_limit

-- the line of a source's release, its values, what becomes of its links, and what of `%z`
record Stages (source head : List ℕ) (values linked out : List LineValue) : Type 0 where
  pub heads : head_of source ≡ Ok head
  pub meant : values_in source ≡ Ok values
  pub led : settled values ≡ Ok linked
  pub spelled : written_out linked ≡ Ok out

of_ok : {A E : Type 0} {r : Result A E} {x : A} (P : A → Type 0) → r ≡ Ok x → IfOk r P → P x
of_ok P e h = subst (λ r. IfOk r P) e h

back_of : (source head : List ℕ) (values linked out : List LineValue) → Stages source head values linked out → length (head ++ written out) ≤ text_limit
    → IsPlaced source (head ++ written out)
back_of source head values linked out s short =
    let named = is_named source values s.meant in
    let linked_said = of_ok (All IsSaid) s.led (settled_said values named.said) in
    let said = of_ok (All IsSaid) s.spelled (written_out_said linked linked_said) in
    let followed = of_ok (λ vs. are_followed false vs ≡ true) s.meant (source_followed source) in
    record {
      back = record {
        head = head;
        heads = s.heads;
        meant = named.meant;
        means = named.means;
        linked = linked;
        led = ap settled (sym named.by_name) ∙ s.led;
        out = out;
        spelled = s.spelled;
        wrote = refl;
        read = All-weaker IsSaid IsReadAsMeant said_is_read out said;
      };
      values = s.meant ∙ ap Ok named.by_name;
      linked_said = linked_said;
      said = said;
      short = short;
      followed = of_ok (StaysFollowed linked) s.spelled (out_followed linked) false (of_ok (StaysFollowed values) s.led (settled_followed values) false followed);
    }

itself : {A E : Type 0} (r : Result A E) → IfOk r (λ a. r ≡ Ok a)
itself (Ok a) = refl
itself (Err e) = tt

itself_by_line : {A : Type 0} (r : Result A LineFault) → IfOk (by_line r) (λ a. r ≡ Ok a)
itself_by_line (Ok a) = refl
itself_by_line (Err e) = tt

read_of : (source : List ℕ) → IfOk (plain_of source) (IsPlaced source)
unfolding plain_of
read_of source =
    then_ok (λ head. head_of source ≡ Ok head) (IsPlaced source) (by_line (head_of source)) _ (itself_by_line (head_of source)) (λ head heads.
    then_ok (λ values. values_in source ≡ Ok values) (IsPlaced source) (by_line (values_in source)) _ (itself_by_line (values_in source)) (λ values meant.
    then_ok (λ linked. settled values ≡ Ok linked) (IsPlaced source) (settled values) _ (itself (settled values)) (λ linked led.
    then_ok (λ out. written_out linked ≡ Ok out) (IsPlaced source) (written_out linked) _ (itself (written_out linked)) (λ out spelled.
    either (IsPlaced source) (nat_lt text_limit (length (head ++ written out))) _ _ (λ _. tt) (λ e.
    back_of source head values linked out (record { heads = heads; meant = meant; led = led; spelled = spelled })
    (ltb-false text_limit (length (head ++ written out)) e))))))

-- each line that is written of a source is read as it is meant, and each line of a zone stands in its place
pub read_as_meant : (source bytes : List ℕ) → plain_of source ≡ Ok bytes → IsPlaced source bytes
read_as_meant source bytes h = of_ok (IsPlaced source) h (read_of source)
