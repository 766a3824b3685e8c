-- Why a value is not written, and the offset in force.
use Rattle.std.{proofs.Common.{◌≡◌, ℕ, zero, suc, ◌+◌, ℤ, pos, negsuc, true, false, List, [], ◌∷◌, map, replicate, Some, None, refl}, specs.Prelude.{codes}}
use Rattle.zone_tzif_core.specs.{Totals.{file_total_at}, Tzif.{kinds_of, names_of, name_bytes, are_times, are_names, first_fault, write_fault}, Zones.{KindValue, ZoneValue}, declared.values.WriteFault.TheVariants.{Times, Types, Names, Offset, Footer}}
use Rattle.zone_tzif_core.proofs.WorkedFiles.{a_kind, changing}

abbrev at : ℤ → ℤ × KindValue
at time = (time, a_kind (pos 0) false (codes "A"))

abbrev zone_with : KindValue → List (ℤ × KindValue) → List ℕ → ZoneValue
zone_with first rest footer = record { first = first; rest = rest; footer = footer }

-- times 5 and 5, 6 and 5, 5 and 6; the bounds of an offset; a name with a zero byte; names of 256 bytes with their zeros and of one more;
-- two names that fit by a byte; a footer with an LF, with a zero byte
causes : map write_fault
    (zone_with (a_kind (pos 0) false []) (at (pos 5) ∷ at (pos 5) ∷ []) [] ∷ zone_with (a_kind (pos 0) false []) (at (pos 6) ∷ at (pos 5) ∷ []) []
    ∷ zone_with (a_kind (pos 0) false []) (at (negsuc 5) ∷ at (pos 6) ∷ []) [] ∷ zone_with (a_kind (pos 93599) false []) [] [] ∷ zone_with (a_kind (pos 93600) false []) [] []
    ∷ zone_with (a_kind (negsuc 93598) true []) [] [] ∷ zone_with (a_kind (negsuc 93599) true []) [] [] ∷ zone_with (a_kind (pos 0) false (65 ∷ 0 ∷ [])) [] []
    ∷ zone_with (a_kind (pos 0) false (replicate 255 65)) [] [] ∷ zone_with (a_kind (pos 0) false (replicate 256 65)) [] []
    ∷ zone_with (a_kind (pos 0) false (replicate 253 66)) (at (pos 5) ∷ []) [] ∷ zone_with (a_kind (pos 0) false (replicate 254 66)) (at (pos 5) ∷ []) []
    ∷ zone_with (a_kind (pos 0) false []) [] (65 ∷ 10 ∷ []) ∷ zone_with (a_kind (pos 0) false []) [] (65 ∷ 0 ∷ []) ∷ [])
    ≡ Some Times ∷ Some Times ∷ None ∷ None ∷ Some Offset ∷ None ∷ Some Offset ∷ Some Names ∷ None ∷ Some Names ∷ None ∷ Some Names ∷ Some Footer ∷ Some Footer ∷ []
unfolding write_fault are_times are_names kinds_of names_of name_bytes
causes = refl

-- the first cause that holds
order : first_fault false false false false false ∷ first_fault true false false false false ∷ first_fault true true false false false
    ∷ first_fault true true true false false ∷ first_fault true true true true false ∷ first_fault true true true true true ∷ []
    ≡ Some Times ∷ Some Types ∷ Some Names ∷ Some Offset ∷ Some Footer ∷ None ∷ []
order = refl

-- so many kinds, each a second further east
abbrev east : ℕ → ℕ → List (ℤ × KindValue)
east zero from = []
east (suc n) from = (pos from, a_kind (pos from) false []) ∷ east n (from + 1)

-- 256 kinds and 257
kinds : map (λ n. write_fault (zone_with (a_kind (pos 0) false []) (east n 1) [])) (255 ∷ 256 ∷ []) ≡ None ∷ Some Types ∷ []
unfolding write_fault are_times are_names kinds_of names_of name_bytes
kinds = refl

-- before the first change, a nanosecond before it and at it, a nanosecond before the second one, at the second, the third and the last
totals : map (file_total_at changing)
    (negsuc 9999999999999999999 ∷ negsuc 2717650800000000000 ∷ negsuc 2717650799999999999 ∷ pos 4999999999 ∷ pos 5000000000 ∷ pos 6000000000 ∷ pos 4294967301000000000 ∷ [])
    ≡ negsuc 17761 ∷ negsuc 17761 ∷ negsuc 17999 ∷ negsuc 17999 ∷ negsuc 14399 ∷ negsuc 17999 ∷ pos 3600 ∷ []
unfolding file_total_at
totals = refl

-- kinds that differ in one part alone are two, and one that comes again is none more
distinct : kinds_of (zone_with (a_kind (pos 0) false (codes "A")) ((pos 1, a_kind (pos 0) true (codes "A")) ∷ (pos 2, a_kind (pos 1) false (codes "A"))
    ∷ (pos 3, a_kind (pos 0) false (codes "B")) ∷ at (pos 4) ∷ []) [])
    ≡ a_kind (pos 0) false (codes "A") ∷ a_kind (pos 0) true (codes "A") ∷ a_kind (pos 1) false (codes "A") ∷ a_kind (pos 0) false (codes "B") ∷ []
unfolding kinds_of
distinct = refl

-- a name of two kinds is written once
once : names_of (a_kind (pos 0) false (codes "A") ∷ a_kind (pos 1) false (codes "B") ∷ a_kind (pos 2) true (codes "A") ∷ []) ≡ codes "A" ∷ codes "B" ∷ []
unfolding names_of
once = refl
