-- What the calls of the outside give, take and count.
use Rattle.std.specs.Prelude.{◌≡◌, ◌↔◌, ℕ, ◌+◌, ◌-◌, ◌^◌, ◌≤◌, min, List, [], ◌++◌, length, take, drop, Option, Some, Result, MatchResult, IfSome, OnErr}

-- the last value of a 64-bit counter, at which it stays
abbrev pub last_count : ℕ
last_count = 2 ^ 64 - 1

-- a count that goes up by n, to its last value at most
abbrev pub raised : ℕ → ℕ → ℕ
raised count n = min (count + n) last_count

-- a count of faults rose, or stands at its last value
abbrev pub Rose : ℕ → ℕ → Type 0
Rose before now = raised before 1 ≤ now

-- the count of faults never falls, and a refused call raised it
pub record HasCause {T E : Type 0} (before now : ℕ) (result : Result T E) : Type 0 where
  pub later : before ≤ now
  pub failed : OnErr result (Rose before now)

-- an accepted read counts the bytes that it gave, and a refused one none
abbrev pub Gives : {E : Type 0} → ℕ → ℕ → Result ℕ E → Type 0
Gives before now result = MatchResult result (λ n. now ≡ raised before n) (λ _. now ≡ before)

-- n bytes were given, each counted, or the count stands at its last value
pub record Counted (before now n : ℕ) : Type 0 where
  pub least : raised before n ≤ now
  pub most : now ≤ before + n

-- the first n bytes of the buffer are the first n of these bytes, and the rest is left; none are given only at the end
pub record Consumes (bytes : List ℕ) (left : Option (List ℕ)) (into : List ℕ) (n : ℕ) : Type 0 where
  pub rest : List ℕ
  pub parts : bytes ≡ take n into ++ rest
  pub left_is : left ≡ Some rest
  pub ended : n ≡ 0 → rest ≡ []

-- where the source tells what is left, an accepted read consumes of it; a refused one leaves it
abbrev pub Reads : {E : Type 0} → Option (List ℕ) → Option (List ℕ) → List ℕ → Result ℕ E → Type 0
Reads before now into result = MatchResult result (λ n. IfSome before (λ bytes. Consumes bytes now into n)) (λ _. now ≡ before)

-- where the bytes of a name are told, an accepted fetch leaves them; a refused one leaves what was left
abbrev pub Fetches : {T E : Type 0} → Option (List ℕ) → Option (List ℕ) → Option (List ℕ) → Result T E → Type 0
Fetches told before now result = MatchResult result (λ _. IfSome told (λ bytes. now ≡ Some bytes)) (λ _. now ≡ before)

-- where the source tells what is left, that is now the end of it, after some of its bytes
abbrev pub LeavesRest : Option (List ℕ) → Option (List ℕ) → Type 0
LeavesRest before now = IfSome before (λ bytes. (n : ℕ) × (now ≡ Some (drop n bytes)))

-- the same texts are told, and the same names may be asked for
pub record KeepsNames (told told_now : List ℕ → Option (List ℕ)) (open_to open_now : List ℕ → Type 0) : Type 0 where
  pub texts : (name : List ℕ) → told_now name ≡ told name
  pub names : (name : List ℕ) → open_to name ↔ open_now name

-- where the sink tells what it has taken, an accepted write takes the first n bytes of the piece; a refused one takes none
abbrev pub Takes : {E : Type 0} → Option (List ℕ) → Option (List ℕ) → List ℕ → Result ℕ E → Type 0
Takes before now piece result = MatchResult result (λ n. IfSome before (λ had. now ≡ Some (had ++ take n piece))) (λ _. now ≡ before)

-- what is taken grew by a prefix of these bytes
abbrev pub GrewByPrefix : List ℕ → Option (List ℕ) → List ℕ → Type 0
GrewByPrefix had now bytes = (n : ℕ) × (n ≤ length bytes) × (now ≡ Some (had ++ take n bytes))

-- more than the limit was given, or the count of given bytes ended at its last value
abbrev pub TooMuch : ℕ → ℕ → ℕ → Type 0
TooMuch limit before now = min (limit + before + 1) last_count ≤ now
