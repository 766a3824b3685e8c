-- The definitions at worked names.
use Rattle.std.proofs.Common.{◌≡◌, [], ◌∷◌, codes, refl}
use Rattle.zone_table.specs.NameTree.{submodule, time_zone, tree_of, name_tree}

-- zones in two levels
two_levels : name_tree (codes "a/b/d" ∷ codes "a/e" ∷ codes "a/b/c" ∷ [])
    ≡ record { name = codes "a"; children = submodule (codes "b") ∷ time_zone (codes "e") ∷ [] }
    ∷ record { name = codes "a/b"; children = time_zone (codes "c") ∷ time_zone (codes "d") ∷ [] } ∷ []
unfolding name_tree tree_of
two_levels = refl

-- submodules stand before time zones, whatever their names
submodules_first : name_tree (codes "a/b" ∷ codes "a/z/c" ∷ [])
    ≡ record { name = codes "a"; children = submodule (codes "z") ∷ time_zone (codes "b") ∷ [] }
    ∷ record { name = codes "a/z"; children = time_zone (codes "c") ∷ [] } ∷ []
unfolding name_tree tree_of
submodules_first = refl

-- submodules of one part stand in byte order too
submodules_in_order : name_tree (codes "a/c/x" ∷ codes "a/b/y" ∷ [])
    ≡ record { name = codes "a"; children = submodule (codes "b") ∷ submodule (codes "c") ∷ [] }
    ∷ record { name = codes "a/b"; children = time_zone (codes "y") ∷ [] }
    ∷ record { name = codes "a/c"; children = time_zone (codes "x") ∷ [] } ∷ []
unfolding name_tree tree_of
submodules_in_order = refl

-- the front up to the first slash gets the rest
three_slashes : name_tree (codes "a/b/c/d" ∷ [])
    ≡ record { name = codes "a"; children = submodule (codes "b/c") ∷ [] }
    ∷ record { name = codes "a/b/c"; children = time_zone (codes "d") ∷ [] } ∷ []
unfolding name_tree tree_of
three_slashes = refl

-- a name that is given twice stands once, and a name with no slash nowhere
once : name_tree (codes "b/a" ∷ codes "c" ∷ codes "b/a" ∷ []) ≡ record { name = codes "b"; children = time_zone (codes "a") ∷ [] } ∷ []
unfolding name_tree tree_of
once = refl
