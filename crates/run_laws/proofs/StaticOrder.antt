-- In the source the Statics of an entry are laid behind its local variables; they could as well be laid where they stand among them.
use Rattle.std.proofs.Common.{◌≡◌, ◌⊎◌, inl, inr, refl, sym, ap, ◌∙◌, ℕ, suc, Bool, true, false, cond, List, [], ◌∷◌, ◌++◌, Option, Some, None}
use Rattle.std.specs.List.{list_all}
use Rattle.bound_tree.specs.Tree.{Declarations, Procedure}
use Rattle.run_base.specs.Outcomes.{Outcome, gives, outside, after, then, some_of}
use Rattle.run_base.specs.Positions.{Root, made, Position, whole}
use Rattle.vb6_run.specs.Programs.{Bindings, made_each, lay_if_blank, lay_statics}
use Rattle.vb6_run.specs.Runnables.{static_root}
use Rattle.vb6_run.specs.Shapes.{Shape, variable_shape}
use Rattle.vb6_run.specs.Store.{Address, Held, blank, single, table, parts, Memory, provided, root, make}
use Rattle.vb6_run.specs.Values.{Value, first_value, is_makeable}
use Rattle.written_trees.specs.Prologues.{is_static}
use Rattle.run_matches.specs.Covered.{has_no_static}
use Rattle.run_matches.specs.Sites.{Own, Site, own_variable, own_constant, owns_of, local_numbers, static_numbers}
use Rattle.agreeing_laws.proofs.Outputs.{after_nothing, then_then}
use Rattle.memory_laws.specs.Laying.{HasEnd, held_with}
use Rattle.memory_laws.proofs.LaidValues.{laid_is, roots_swapped}
use Rattle.memory_laws.proofs.Parts.{held_apart, root_apart}
use Rattle.run_laws.specs.Entered.{static_in}
use Rattle.run_laws.proofs.StaticPlaces.{none_numbered}

-- ---- what is laid where Statics stand, and in a place

-- a value stands at a position
abbrev with_value : Position → Value → Memory → Memory
with_value q x w = record w { held = held_with x q w.held }

abbrev with_next : Position → Value → Memory → Memory
with_next q x w = with_value q x (record w { next = suc w.next })

abbrev IsNoPlace : Root → Type 0
IsNoPlace r = (n : ℕ) → r ≡ made n → ⊥

-- a Static stands in none
static_apart : (holder : Option ℕ) (k : ℕ) → IsNoPlace (static_in holder k)
static_apart None k n e = cc e
static_apart (Some o) k n e = cc e

swapped_memory : (w : Memory) (r : Root) → IsNoPlace r → (x y : Value)
    → with_value (whole r) x (with_next (whole (made w.next)) y w) ≡ with_next (whole (made w.next)) y (with_value (whole r) x w)
swapped_memory w r apart x y =
    ap (λ (h : Position → Held). record w { held = h; next = suc w.next }) (roots_swapped x (whole r) y (whole (made w.next)) w.held (apart w.next))

-- what stands there stands there still
same_there : (w : Memory) (r : Root) → IsNoPlace r → (y : Value) → (with_next (whole (made w.next)) y w).held (whole r) ≡ w.held (whole r)
same_there w r apart y =
    held_apart y (whole (made w.next)) w.held (whole r) (root_apart (whole (made w.next)) (whole r) (λ e. apart w.next (sym e)))

abbrev put : Bool → Position → Value → Memory → Outcome Memory Unit
put b q x w = provided b (λ v. gives [] tt (with_value q x v)) w

abbrev made_by : Bool → Value → Shape → Memory → Outcome Memory Address
made_by b x l w = then (put b (whole (made w.next)) x (record w { next = suc w.next })) (λ u v. gives [] (root l (whole (made w.next))) v)

abbrev once_by : Bool → Value → Root → Held → Memory → Outcome Memory Unit
once_by b x r blank w = put b (whole r) x w
once_by b x r (single t z) w = gives [] tt w
once_by b x r (table e dims xs) w = gives [] tt w
once_by b x r parts w = gives [] tt w

made_is : (l : Shape) → HasEnd l → (w : Memory) → make l w ≡ made_by (is_makeable l) (first_value l) l w
made_is l e w =
    ap
    (λ (f : Memory → Memory). then (provided (is_makeable l) (λ v. gives [] tt (f v)) (record w { next = suc w.next }))
    (λ u v. gives [] (root l (whole (made w.next))) v))
    (λ i v. laid_is l (whole (made w.next)) v e i)

once_is : (s : Shape) → HasEnd s → (r : Root) (h : Held) (w : Memory) → lay_if_blank s r h w ≡ once_by (is_makeable s) (first_value s) r h w
once_is s e r blank w =
    ap (λ (f : Memory → Memory). provided (is_makeable s) (λ v. gives [] tt (f v)) w) (λ i v. laid_is s (whole r) v e i)
once_is s e r (single t z) w = refl
once_is s e r (table f dims xs) w = refl
once_is s e r parts w = refl

-- ---- one Static behind one local variable, and before it

module _ {A : Type 0} (r : Root) (apart : IsNoPlace r) (x y : Value) (l : Shape) (G : Address → Memory → Outcome Memory A) where
  behind_made : (b : Bool) (h : Held) (w : Memory)
      → after [] (then (once_by b x r h (with_next (whole (made w.next)) y w)) (λ u v. G (root l (whole (made w.next))) v))
      ≡ then (once_by b x r h w) (λ u v. then (made_by true y l v) G)
  behind_made true blank w =
      ap (λ m. after [] (after [] (G (root l (whole (made w.next))) m))) (swapped_memory w r apart x y)
  behind_made false blank w = refl
  behind_made b (single t z) w = refl
  behind_made b (table e dims xs) w = refl
  behind_made b parts w = refl

  behind_none : (b : Bool) (h : Held) (w : Memory) → outside [] ≡ then (once_by b x r h w) (λ u v. then (made_by false y l v) G)
  behind_none true blank w = refl
  behind_none false blank w = refl
  behind_none b (single t z) w = refl
  behind_none b (table e dims xs) w = refl
  behind_none b parts w = refl

  one_swapped : (b c : Bool) (w : Memory)
      → then (made_by c y l w) (λ a v. then (once_by b x r (v.held (whole r)) v) (λ u v. G a v))
      ≡ then (once_by b x r (w.held (whole r)) w) (λ u v. then (made_by c y l v) G)
  one_swapped b true w =
      ap (λ h. after [] (then (once_by b x r h (with_next (whole (made w.next)) y w)) (λ u v. G (root l (whole (made w.next))) v))) (same_there w r apart y)
      ∙ behind_made b (w.held (whole r)) w
  one_swapped b false w = behind_none b (w.held (whole r)) w

-- ---- behind all local variables

abbrev pub HaveEnds : Declarations → List ℕ → Type 0
HaveEnds D [] = Unit {0}
HaveEnds D (v ∷ vs) = HasEnd (variable_shape D v) × HaveEnds D vs

-- a Static of a standard module or of an object is made where none is there
abbrev pub laid_once : Declarations → (holder : Option ℕ) → (variable : ℕ) → Memory → Outcome Memory Unit
laid_once D holder k w = lay_if_blank (variable_shape D k) (static_in holder k) (w.held (whole (static_in holder k))) w

abbrev pub laid_all : Declarations → (holder : Option ℕ) → List ℕ → Memory → Outcome Memory Unit
laid_all D holder [] w = gives [] tt w
laid_all D holder (k ∷ ks) w = then (laid_once D holder k w) (λ u w. laid_all D holder ks w)

module _ (D : Declarations) {A : Type 0} where
  -- what follows a list of variables that begins with one
  pub each_next : (l : ℕ) (ls : List ℕ) (J : Bindings → Memory → Outcome Memory A) (w : Memory)
      → then (made_each D (l ∷ ls) w) J
      ≡ then (make (variable_shape D l) w) (λ a v. then (made_each D ls v) (λ rest v. J ((l, a) ∷ rest) v))
  each_next l ls J w =
      then_then (make (variable_shape D l) w) (λ a v. then (made_each D ls v) (λ rest v. gives [] ((l, a) ∷ rest) v)) J
      ∙ ap (λ k. then (make (variable_shape D l) w) k)
      (λ i a v. then_then (made_each D ls v) (λ rest v. gives [] ((l, a) ∷ rest) v) J i)
      ∙ ap (λ k. then (make (variable_shape D l) w) k)
      (λ i a v. then (made_each D ls v) (λ rest z. after_nothing (J ((l, a) ∷ rest) z) i))

module _ (D : Declarations) (holder : Option ℕ) {A : Type 0} where
  one_past : (k l : ℕ) → HasEnd (variable_shape D k) → HasEnd (variable_shape D l) → (G : Address → Memory → Outcome Memory A) (w : Memory)
      → then (make (variable_shape D l) w) (λ a v. then (laid_once D holder k v) (λ u v. G a v))
      ≡ then (laid_once D holder k w) (λ u v. then (make (variable_shape D l) v) G)
  one_past k l s t G w =
      let at : Root = static_in holder k in
      let z = variable_shape D k in
      let y = variable_shape D l in
      let made = λ (v : Memory). made_by (is_makeable y) (first_value y) y v in
      let once = λ (v : Memory). once_by (is_makeable z) (first_value z) at (v.held (whole at)) v in
      ap (λ r. then r (λ a v. then (laid_once D holder k v) (λ u v. G a v))) (made_is y t w)
      ∙ ap (λ f. then (made w) f)
      (λ i a v. then (once_is z s at (v.held (whole at)) v i) (λ u v. G a v))
      ∙ one_swapped at (static_apart holder k) (first_value z) (first_value y) y G (is_makeable z) (is_makeable y) w
      ∙ ap (λ f. then (once w) f) (λ i u v. let e = sym (made_is y t v) in then (e i) G)
      ∙ ap (λ r. then r (λ u v. then (make y v) G)) (sym (once_is z s at (w.held (whole at)) w))

  all_past : (k : ℕ) → HasEnd (variable_shape D k) → (ls : List ℕ) → HaveEnds D ls → (G : Bindings → Memory → Outcome Memory A) (w : Memory)
      → then (made_each D ls w) (λ xs v. then (laid_once D holder k v) (λ u v. G xs v))
      ≡ then (laid_once D holder k w) (λ u v. then (made_each D ls v) G)
  all_past k s [] ts G w =
      after_nothing (then (laid_once D holder k w) (λ u v. G [] v))
      ∙ ap (λ f. then (laid_once D holder k w) f) (λ i u v. let e = sym (after_nothing (G [] v)) in e i)
  all_past k s (l ∷ ls) ts G w =
      each_next D l ls (λ xs v. then (laid_once D holder k v) (λ u v. G xs v)) w
      ∙ ap (λ f. then (make (variable_shape D l) w) f) (λ i a v. all_past k s ls ts.1 (λ rest z. G ((l, a) ∷ rest) z) v i)
      ∙ one_past k l s ts.0 (λ a v. then (made_each D ls v) (λ rest z. G ((l, a) ∷ rest) z)) w
      ∙ ap (λ f. then (laid_once D holder k w) f) (λ i u v. let e = sym (each_next D l ls G v) in e i)

-- ---- among the declarations of a procedure

abbrev pub AllEnd : Declarations → List Own → Type 0
AllEnd D [] = Unit {0}
AllEnd D (own_variable v x ∷ os) = HasEnd (variable_shape D v) × AllEnd D os
AllEnd D (own_constant c x ∷ os) = AllEnd D os

-- a variable of a procedure is made, or laid where it is a Static
abbrev pub made_own : Declarations → (holder : Option ℕ) → (static : Bool) → (variable : ℕ) → (Memory → Outcome Memory Bindings) → Memory
    → Outcome Memory Bindings
made_own D holder true v rest w = then (laid_once D holder v w) (λ u w. rest w)
made_own D holder false v rest w = then (make (variable_shape D v) w) (λ a w. then (rest w) (λ xs w. gives [] ((v, a) ∷ xs) w))

-- in the order of their declarations
abbrev pub made_in_order : Declarations → (holder : Option ℕ) → List Own → Memory → Outcome Memory Bindings
made_in_order D holder [] w = gives [] [] w
made_in_order D holder (own_variable v x ∷ os) w = made_own D holder (is_static x.owner) v (made_in_order D holder os) w
made_in_order D holder (own_constant c x ∷ os) w = made_in_order D holder os w

ending_locals : (D : Declarations) (os : List Own) → AllEnd D os → HaveEnds D (local_numbers os)
ending_locals D [] h = tt
ending_locals D (own_variable v x ∷ os) h = by (is_static x.owner) (ending_locals D os h.1)
  where
    by : (b : Bool) → HaveEnds D (local_numbers os) → HaveEnds D (cond b [] (v ∷ []) ++ local_numbers os)
    by true more = more
    by false more = (h.0, more)
ending_locals D (own_constant c x ∷ os) h = ending_locals D os h

module _ (D : Declarations) (holder : Option ℕ) {A : Type 0} where
  -- locals, then Statics, then the rest
  abbrev Both : List ℕ → List ℕ → (Bindings → Memory → Outcome Memory A) → Memory → Outcome Memory A
  Both ls ss G w = then (made_each D ls w) (λ xs v. then (laid_all D holder ss v) (λ u v. G xs v))

  own_by : (v : ℕ) → HasEnd (variable_shape D v) → (b : Bool) (ls ss : List ℕ) → HaveEnds D ls → (rest : Memory → Outcome Memory Bindings)
      → ((G : Bindings → Memory → Outcome Memory A) (w : Memory) → Both ls ss G w ≡ then (rest w) G) → (G : Bindings → Memory → Outcome Memory A) (w : Memory)
      → Both (cond b [] (v ∷ []) ++ ls) (cond b (v ∷ []) [] ++ ss) G w ≡ then (made_own D holder b v rest w) G
  own_by v s true ls ss are rest more G w =
      ap (λ f. then (made_each D ls w) f) (λ i xs z. then_then (laid_once D holder v z) (λ u w. laid_all D holder ss w) (λ u y. G xs y) i)
      ∙ all_past D holder v s ls are (λ xs z. then (laid_all D holder ss z) (λ u y. G xs y)) w
      ∙ ap (λ f. then (laid_once D holder v w) f) (λ i u z. more G z i)
      ∙ sym (then_then (laid_once D holder v w) (λ u w. rest w) G)
  own_by v s false ls ss are rest more G w =
      each_next D v ls (λ xs z. then (laid_all D holder ss z) (λ u y. G xs y)) w
      ∙ ap (λ f. then (make (variable_shape D v) w) f) (λ i a z. more (λ xs y. G ((v, a) ∷ xs) y) z i)
      ∙ ap (λ f. then (make (variable_shape D v) w) f)
      (λ i a z. let e = sym (then_then (rest z) (λ xs y. gives [] ((v, a) ∷ xs) y) G ∙ ap (λ f. then (rest z) f) (λ j xs y. after_nothing (G ((v, a) ∷ xs) y) j)) in e i)
      ∙ sym (then_then (make (variable_shape D v) w) (λ a z. then (rest z) (λ xs y. gives [] ((v, a) ∷ xs) y)) G)

  -- it makes no difference
  pub in_order : (os : List Own) → AllEnd D os → (G : Bindings → Memory → Outcome Memory A) (w : Memory)
      → Both (local_numbers os) (static_numbers os) G w ≡ then (made_in_order D holder os w) G
  in_order [] h G w = ap (λ r. after [] r) (after_nothing (G [] w))
  in_order (own_variable v x ∷ os) h G w =
      own_by v h.0 (is_static x.owner) (local_numbers os) (static_numbers os) (ending_locals D os h.1) (made_in_order D holder os)
      (λ G w. in_order os h.1 G w) G w
  in_order (own_constant c x ∷ os) h G w = in_order os h G w

-- ---- the Statics of a procedure

laid_as_statics : (D : Declarations) (me holder : Option ℕ) (file : ℕ) → ((k : ℕ) → static_root D me k (Some file) ≡ Some (static_in holder k)) → (ss : List ℕ)
    (w : Memory) → lay_statics D me (Some file) ss w ≡ laid_all D holder ss w
laid_as_statics D me holder file stands [] w = refl
laid_as_statics D me holder file stands (k ∷ ss) w =
    ap (λ o. then (some_of o (λ r z. lay_if_blank (variable_shape D k) r (z.held (whole r)) z) w) (λ u z. lay_statics D me (Some file) ss z)) (stands k)
    ∙ ap (λ f. then (laid_once D holder k w) f) (λ i u z. laid_as_statics D me holder file stands ss z i)

pub statics_laid : (D : Declarations) (x : Procedure) (s : Site) (me holder : Option ℕ)
    → (list_all has_no_static (owns_of D s) ≡ true) ⊎ ((k : ℕ) → static_root D me k (Some x.module_number) ≡ Some (static_in holder k)) → (w : Memory)
    → lay_statics D me (Some x.module_number) (static_numbers (owns_of D s)) w ≡ laid_all D holder (static_numbers (owns_of D s)) w
statics_laid D x s me holder (inr stands) w = laid_as_statics D me holder x.module_number stands (static_numbers (owns_of D s)) w
statics_laid D x s me holder (inl none) w =
    let are : static_numbers (owns_of D s) ≡ [] = none_numbered (owns_of D s) none in
    ap (λ ss. lay_statics D me (Some x.module_number) ss w) are ∙ sym (ap (λ ss. laid_all D holder ss w) are)
