-- Projects whose modules stand in different files.
use Rattle.std.specs.Prelude.{◌≡◌, nat_eq, false, List, [], ◌∷◌}
use Rattle.std.specs.List.{AllByRecursion as Each}
use Rattle.vb_tree.specs.Tree.{Module}

-- no two modules have one file number
abbrev pub HaveDifferentFiles : List Module → Type 0
HaveDifferentFiles [] = Unit {0}
HaveDifferentFiles (m ∷ ms) = Each (λ (n : Module). nat_eq m.file n.file ≡ false) ms × HaveDifferentFiles ms
