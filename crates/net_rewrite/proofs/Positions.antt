-- What is found in a list, and in the list of what its items show.
use Rattle.std.proofs.Common.{◌≡◌, ℕ, ◌+◌, Bool, cond, not, List, [], ◌∷◌, map, length, nat_lt, Option, Some, None, refl, sym, ap, ◌∙◌}
use Rattle.std.specs.Prelude.{option_map, position, slice_get}
use Rattle.std.specs.Borrow.{Bor}
use Rattle.std.specs.List.{prefix_len, position_or_len}
use Rattle.std.specs.Option.{option_copied}
use Rattle.std.proofs.lemmas.List.{length-map}
use Rattle.std.proofs.lemmas.Option.{slice_get-map}
use Rattle.vb_tree.specs.declared.declared.ProcKind.{ProcKind}
use Rattle.bound_tree.specs.declared.declared.ProcDecl.{ProcDecl}
use Rattle.bound_tree.specs.declared.declared.Declared.{Declared}
use Rattle.bound_tree.specs.Tree.{Declarations}
use Rattle.bound_tree.specs.View.{declarations_of, procedure_of}
use Rattle.written_trees.specs.Properties.{is_part}

shown_prefix : {X Y : Type 0} (t : Y → Bool) (f : X → Y) (xs : List X) → prefix_len t (map f xs) ≡ prefix_len (λ x. t (f x)) xs
shown_prefix t f [] = refl
shown_prefix t f (x ∷ xs) = ap (λ n. cond (t (f x)) (1 + n) 0) (shown_prefix t f xs)

shown_position : {X Y : Type 0} (t : Y → Bool) (f : X → Y) (xs : List X) → position (λ x. t (f x)) xs ≡ position t (map f xs)
shown_position t f xs =
    ap (λ n. cond (nat_lt n (length xs)) (Some n) None) (sym (shown_prefix (λ y. not (t y)) f xs))
    ∙ ap (λ m. cond (nat_lt (position_or_len t (map f xs)) m) (Some (position_or_len t (map f xs))) None) (sym (length-map xs f))

pub part_position : (first : ℕ) (k : ProcKind) (qs : List ProcDecl) → position (λ q. is_part first k (procedure_of q)) qs ≡ position (is_part first k) (map procedure_of qs)
part_position first k qs = shown_position (is_part first k) procedure_of qs

pub lent_procedure : (q : Option (Bor ProcDecl)) (d : Declared) (D : Declarations) (n : ℕ) → option_copied q ≡ slice_get d.procs n → declarations_of d ≡ D
    → option_map (λ (x : Bor ProcDecl). procedure_of x.now) q ≡ slice_get D.procs n
lent_procedure q d D n found same =
    lent q
    ∙ ap (λ (o : Option ProcDecl). option_map procedure_of o) found
    ∙ sym (slice_get-map procedure_of d.procs n)
    ∙ ap (λ (E : Declarations). slice_get E.procs n) same
  where
    lent : (o : Option (Bor ProcDecl)) → option_map (λ (x : Bor ProcDecl). procedure_of x.now) o ≡ option_map procedure_of (option_copied o)
    lent None = refl
    lent (Some x) = refl
