-- The functions for the classes among modules are those for the files of class modules.
use Rattle.std.proofs.Common.{◌≡◌, ℕ, Bool, true, false, cond, List, [], ◌∷◌, ◌++◌, map, refl, ap, ◌∙◌}
use Rattle.std.specs.List.{filter}
use Rattle.bound_tree.specs.Tree.{Declarations}
use Rattle.vb_tree.specs.Tree.{Module}
use Rattle.written_trees.specs.Supports.{autos_from}
use Rattle.support_modules.specs.Autos.{autos_in, autos_of, class_after}

abbrev files_in : List Module → List ℕ
files_in ms = map (λ (m : Module). m.file) (filter (λ (m : Module). m.class) ms)

either_way : (D : Declarations) (c : ℕ) (m : Module) (ms : List Module) (class : Bool) →
    autos_of D c class ++ autos_from D (class_after c class) (files_in ms) ≡ autos_from D c (map (λ (n : Module). n.file) (cond class (m ∷ filter (λ (n : Module). n.class) ms) (filter (λ (n : Module). n.class) ms)))
either_way D c m ms true = refl
either_way D c m ms false = refl

autos_listed : (D : Declarations) (c : ℕ) (ms : List Module) → autos_in D c ms ≡ autos_from D c (files_in ms)
autos_listed D c [] = refl
autos_listed D c (m ∷ ms) = ap (λ xs. autos_of D c m.class ++ xs) (autos_listed D (class_after c m.class) ms) ∙ either_way D c m ms m.class

pub all_autos : (D : Declarations) (ms : List Module) → autos_in D 0 ms ≡ autos_from D 0 (files_in ms)
all_autos D ms = autos_listed D 0 ms
