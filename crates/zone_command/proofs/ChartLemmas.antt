-- Zones that names find, one after another.
use Rattle.std.{proofs.Common.{◌≡◌, ℕ, List, [], ◌∷◌, ◌++◌, map, Ok, Err, refl, sym, subst, ap, ◌∙◌, append_assoc, append-nil}, proofs.lemmas.List.{map-append}, specs.Prelude.{IfErr, IfOk, Result, Vec, decimal}, specs.declared.alloc.Global.{Global}}
use Rattle.zone_command.specs.{Answers.{told, IsAnswer, IsGiven, IsReply, ◌>>=◌}, Named.{Found, named_in}, Refusals.{IsTold}, Replies.{behind_found, chart_answer, named_zones, IsCharted, IsStep}, declared.source.Refusal.{Refusal}, declared.source.Refusal.TheVariants.{Why, NoMemory}}
use Rattle.zone_texts.specs.{Charts.{chart_due}, DueLaws.{pass}, SeenZones.{Named}, Faults.{Due, IsFaultOf}, Frames.{framed, IsWithin}, Views.{ZoneView}, declared.fault.ReplyFault.{ReplyFault}}

pub nothing : (left : Result (List Named) (List ℕ)) → behind_found [] left ≡ left
nothing (Ok more) = refl
nothing (Err words) = refl

more : (zones : List Named) (zone : Named) (left : Result (List Named) (List ℕ))
    → behind_found zones (left >>= (λ rest. Ok (zone ∷ rest))) ≡ behind_found (zones ++ zone ∷ []) left
more zones zone (Ok rest) = ap Ok (sym (append_assoc zones (zone ∷ []) rest))
more zones zone (Err words) = refl

abbrev on : (List ℕ → Found) → List Named → List ℕ → List (List ℕ) → Found → Result (List Named) (List ℕ)
on found zones name names z =
    behind_found zones (z >>= (λ view. named_zones found names >>= (λ rest. Ok (record { name = name; view = view } ∷ rest))))

pub stepped : (found : List ℕ → Found) (zones : List Named) (name : List ℕ) (names : List (List ℕ)) (view : ZoneView) → named_in found name ≡ Ok view
    → behind_found zones (named_zones found (name ∷ names)) ≡ behind_found (zones ++ (record { name = name; view = view }) ∷ []) (named_zones found names)
unfolding named_zones
stepped found zones name names view is =
    ap (on found zones name names) is ∙ more zones (record { name = name; view = view }) (named_zones found names)

pub refused : (found : List ℕ → Found) (zones : List Named) (name : List ℕ) (names : List (List ℕ)) (words : List ℕ) → named_in found name ≡ Err words
    → behind_found zones (named_zones found (name ∷ names)) ≡ Err words
unfolding named_zones
refused found zones name names words is = ap (on found zones name names) is

pub ended : (found : List ℕ → Found) (zones : List Named) → behind_found zones (named_zones found []) ≡ Ok zones
unfolding named_zones
ended found zones = ap Ok (append-nil zones)

pub pushed : {X : Type 0} (found : List ℕ → Found) (of : X → Named) (name : List ℕ) (before now : List X) (item : X) (view : ZoneView)
    → named_in found name ≡ Ok view → of item ≡ record { name = name; view = view } → now ≡ before ++ item ∷ []
    → (others : List (List ℕ)) → IsStep found name others (map of before) (map of now)
pushed found of name before now item view is item_is grew others =
    let zone : Named = record { name = name; view = view } in
    let mapped : map of now ≡ map of before ++ zone ∷ [] =
    ap (map of) grew ∙ map-append of before (item ∷ []) ∙ ap (λ z. map of before ++ z ∷ []) item_is in
    stepped found (map of before) name others view is ∙ ap (λ z. behind_found z (named_zones found others)) (sym mapped)

-- an answer between two texts
given : (found : List ℕ → Found) (wanted : List (List ℕ)) (year : ℕ) (head tail : List ℕ) (r : Result (Vec ℕ Global) Refusal)
    → IsAnswer (chart_answer head tail found wanted year) r → IsGiven (IsCharted found wanted year) r
given found wanted year head tail (Ok text) a = (head, tail, a)
given found wanted year head tail (Err (Why words)) a = (head, tail, a)
given found wanted year head tail (Err NoMemory) a = record {}

between : (found : List ℕ → Found) (wanted : List (List ℕ)) (year : ℕ) (who : List ℕ) (zones : List Named) (head tail : List ℕ)
    (r : Result (Vec ℕ Global) Refusal) → named_zones found wanted ≡ Ok zones → who ≡ decimal year
    → IsAnswer (told who (framed head (chart_due zones year) tail)) r → IsGiven (IsCharted found wanted year) r
between found wanted year who zones head tail r is who_is a =
    let P : Result (List Named) (List ℕ) → Type 0 = λ z. IsAnswer (z >>= (λ zs. told (decimal year) (framed head (chart_due zs year) tail))) r in
    given found wanted year head tail r (subst P (sym is) (subst (λ w. IsAnswer (told w (framed head (chart_due zones year) tail)) r) who_is a))

pub charted_as : (found : List ℕ → Found) (wanted : List (List ℕ)) (year : ℕ) (who : List ℕ) (zones : List Named) (lines : Result (Vec ℕ Global) ReplyFault)
    (r : Result (Vec ℕ Global) Refusal) → named_zones found wanted ≡ Ok zones → who ≡ decimal year
    → IfOk lines (λ text. IsWithin (chart_due zones year) text.items) → IfErr lines (IsFaultOf (chart_due zones year))
    → ((due : Due) → IsReply due lines → IsAnswer (told who due) r) → IsGiven (IsCharted found wanted year) r
charted_as found wanted year who zones (Ok text) r is who_is ok err tells =
    between found wanted year who zones ok.0 ok.1 r is who_is (tells (framed ok.0 (chart_due zones year) ok.1) ok.2)
charted_as found wanted year who zones (Err fault) r is who_is ok err tells =
    let due = chart_due zones year in
    between found wanted year who zones [] [] r is who_is (tells (framed [] due []) (pass due (framed [] due []) (λ g h. ap (λ x. framed [] x []) h) fault err))

pub untold : (found : List ℕ → Found) (wanted : List (List ℕ)) (year : ℕ) (why : Refusal) → IsTold (λ words. named_zones found wanted ≡ Err words) why
    → IsGiven (IsCharted found wanted year) (Err why)
untold found wanted year (Why words) e =
    let none : List ℕ = [] in (none, none, ap (λ z. z >>= (λ zs. told (decimal year) (framed none (chart_due zs year) none))) e)
untold found wanted year NoMemory e = record {}
