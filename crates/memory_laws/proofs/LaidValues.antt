-- What is laid at a position: the positions in it hold what its shape says, and the order in which they are filled doesn't matter.
use Rattle.std.proofs.Common.{◌≡◌, refl, sym, ap, subst, ◌∙◌, ℕ, suc, Bool, true, false, cond, List, [], ◌∷◌, ◌++◌, append_assoc, true≢false}
use Rattle.up_base.proofs.Tests.{both_true}
use Rattle.run_base.specs.Positions.{Position, inner, is_same_position, updated}
use Rattle.vb6_run.specs.Shapes.{Shape, simple, group, array, endless, Shapes, no_shapes, next_shape}
use Rattle.vb6_run.specs.Store.{Held, Memory, blank, single, table, parts, laid, all_laid}
use Rattle.vb6_run.specs.Values.{Value, scalar, fields, elements, Values, no_values, next_value, are_makeable, first_value, first_values, is_makeable}
use Rattle.net_run.specs.Store as net
use Rattle.net_run.specs.Values as net_value
use Rattle.run_matches.specs.Kinds.{IsKind, AreKinds, AreFieldKinds, IsValueOf, AreValuesOf}
use Rattle.run_matches.specs.SoundShapes.{IsSoundShape, AreSoundShapes}
use Rattle.run_matches.specs.Upgrades.{Upgrade}
use Rattle.memory_laws.specs.Laying.{HasEnd, HaveEnds, held_with, all_held_with, cells_with, all_cells_with}
use Rattle.memory_laws.proofs.Parts.{Apart, ApartFrom, all_held_apart, apart_all, apart_later, field_apart, here, part, root_apart, whole_apart}
use Rattle.memory_laws.proofs.Positions.{at, same_position, updated_here}

-- ---- memories

mutual
  pub sound_end : (U : Upgrade) (s : Shape) → IsSoundShape U s → HasEnd s
  sound_end U (simple ty) c = tt
  sound_end U (group t fs) c = sound_ends U t 0 fs c
  sound_end U (array e bounds) c = tt
  sound_end U endless c = c

  sound_ends : (U : Upgrade) (t k : ℕ) (fs : Shapes) → AreSoundShapes U t k fs → HaveEnds fs
  sound_ends U t k no_shapes c = tt
  sound_ends U t k (next_shape s rest) c = (sound_end U s c.1, sound_ends U t (suc k) rest c.2)

mutual
  pub makeable_end : (s : Shape) → is_makeable s ≡ true → HasEnd s
  makeable_end (simple ty) c = tt
  makeable_end (group t fs) c = makeable_ends fs c
  makeable_end (array e bounds) c = tt
  makeable_end endless c = absurd (true≢false (sym c))

  makeable_ends : (fs : Shapes) → are_makeable fs ≡ true → HaveEnds fs
  makeable_ends no_shapes c = tt
  makeable_ends (next_shape s rest) c =
      let both = both_true (is_makeable s) (are_makeable rest) c in
      (makeable_end s both.0, makeable_ends rest both.1)

mutual
  -- a variable begins with its first value
  pub laid_is : (s : Shape) (q : Position) (w : Memory) → HasEnd s → laid s q w ≡ record w { held = held_with (first_value s) q w.held }
  laid_is (simple ty) q w c = refl
  laid_is (group t fs) q w c = all_laid_is fs q 0 (record w { held = updated w.held q parts }) c
  laid_is (array e bounds) q w c = refl
  laid_is endless q w c = absurd c

  all_laid_is : (fs : Shapes) (q : Position) (k : ℕ) (w : Memory) → HaveEnds fs
      → all_laid fs q k w ≡ record w { held = all_held_with (first_values fs) q k w.held }
  all_laid_is no_shapes q k w c = refl
  all_laid_is (next_shape s rest) q k w c =
      ap (λ v. all_laid rest q (suc k) v) (laid_is s (inner q k) w c.0)
      ∙ all_laid_is rest q (suc k) (record w { held = held_with (first_value s) (inner q k) w.held }) c.1

mutual
  pub net_laid_is : (y : net_value.Value) (q : Position) (w : net.Memory) → net.laid y q w ≡ record w { cell = cells_with y q w.cell }
  net_laid_is net_value.unknown q w = refl
  net_laid_is (net_value.single y) q w = refl
  net_laid_is (net_value.fields ys) q w = all_net_laid_is ys q 0 (record w { cell = updated w.cell q net.structure })

  all_net_laid_is : (ys : net_value.Values) (q : Position) (k : ℕ) (w : net.Memory)
      → net.all_laid ys q k w ≡ record w { cell = all_cells_with ys q k w.cell }
  all_net_laid_is net_value.no_values q k w = refl
  all_net_laid_is (net_value.next_value y ys) q k w =
      ap (λ v. net.all_laid ys q (suc k) v) (net_laid_is y (inner q k) w)
      ∙ all_net_laid_is ys q (suc k) (record w { cell = cells_with y (inner q k) w.cell })

-- something stands where a value was laid
pub stands_laid : (x : Value) (q : Position) (h : Position → Held) → held_with x q h q ≡ blank → ⊥
stands_laid (scalar ty z) q h e = cc (sym (updated_here h q (single ty z)) ∙ e)
stands_laid (fields t xs) q h e =
    cc (sym (all_held_apart xs q 0 (updated h q parts) q (whole_apart q 0) ∙ updated_here h q parts) ∙ e)
stands_laid (elements f dims xs) q h e = cc (sym (updated_here h q (table f dims xs)) ∙ e)

-- ---- kinds

inner_same : (q : Position) (k : ℕ) (g h : Position → Held) → ((path : List ℕ) → h (part q path) ≡ g (part q path)) → (path : List ℕ)
    → h (part (inner q k) path) ≡ g (part (inner q k) path)
inner_same q k g h same path =
    subst (λ z. h (at q.root z) ≡ g (at q.root z)) (append_assoc path (k ∷ []) q.path) (same (path ++ (k ∷ [])))

mutual
  -- what holds the same in all parts of a position is of one kind there
  pub kinds_by : (s : Shape) (q : Position) (g h : Position → Held) → ((path : List ℕ) → h (part q path) ≡ g (part q path)) → AreKinds s q g → AreKinds s q h
  kinds_by (simple ty) q g h same k = subst (λ z. IsKind (simple ty) z) (sym (same [])) k
  kinds_by (group t fs) q g h same k =
      (subst (λ z. IsKind (group t fs) z) (sym (same [])) k.0, field_kinds_by fs q 0 g h same k.1)
  kinds_by (array e bounds) q g h same k = subst (λ z. IsKind (array e bounds) z) (sym (same [])) k
  kinds_by endless q g h same k = k

  field_kinds_by : (fs : Shapes) (q : Position) (i : ℕ) (g h : Position → Held) → ((path : List ℕ) → h (part q path) ≡ g (part q path))
      → AreFieldKinds fs q i g → AreFieldKinds fs q i h
  field_kinds_by no_shapes q i g h same k = tt
  field_kinds_by (next_shape s rest) q i g h same k =
      (kinds_by s (inner q i) g h (inner_same q i g h same) k.0, field_kinds_by rest q (suc i) g h same k.1)

module _ (U : Upgrade) where
  mutual
    pub kinds_laid : (s : Shape) (x : Value) (q : Position) (h : Position → Held) → IsSoundShape U s → IsValueOf s x → AreKinds s q (held_with x q h)
    kinds_laid (simple ty) (scalar s z) q h c of = (z, updated_here h q (single s z) ∙ ap (λ t. single t z) of)
    kinds_laid (simple ty) (fields u xs) q h c of = absurd of
    kinds_laid (simple ty) (elements e dims xs) q h c of = absurd of
    kinds_laid (group t fs) (scalar s z) q h c of = absurd of
    kinds_laid (group t fs) (fields u xs) q h c of = (
      all_held_apart xs q 0 (updated h q parts) q (whole_apart q 0) ∙ updated_here h q parts,
      fields_laid t 0 fs xs q 0 (updated h q parts) c of.1,
    )
    kinds_laid (group t fs) (elements e dims xs) q h c of = absurd of
    kinds_laid (array e bounds) x q h c of = absurd c
    kinds_laid endless x q h c of = absurd c

    fields_laid : (t i : ℕ) (fs : Shapes) (xs : Values) (q : Position) (k : ℕ) (g : Position → Held) → AreSoundShapes U t i fs → AreValuesOf fs xs
        → AreFieldKinds fs q k (all_held_with xs q k g)
    fields_laid t i no_shapes xs q k g c of = tt
    fields_laid t i (next_shape s rest) no_values q k g c of = absurd of
    fields_laid t i (next_shape s rest) (next_value x xs) q k g c of =
        let first : Position → Held = held_with x (inner q k) g in (
          kinds_by s (inner q k) first (all_held_with xs q (suc k) first)
              (λ path. all_held_apart xs q (suc k) first (part (inner q k) path) (field_apart q k path)) (kinds_laid s x (inner q k) g c.1 of.0),
          fields_laid t (suc i) rest xs q (suc k) first c.2 of.1,
        )

-- ---- the order in which positions are filled

swapped : (b c : Bool) (x y z : Held) → (b ≡ true → c ≡ true → ⊥) → cond b x (cond c y z) ≡ cond c y (cond b x z)
swapped true true x y z o = absurd (o refl refl)
swapped true false x y z o = refl
swapped false true x y z o = refl
swapped false false x y z o = refl

updated_swapped : (h : Position → Held) (q p : Position) (x y : Held) → (q ≡ p → ⊥) → updated (updated h q x) p y ≡ updated (updated h p y) q x
updated_swapped h q p x y o =
    λ i a. swapped (is_same_position p a) (is_same_position q a) y x (h a) (λ e f. o (same_position q a f ∙ sym (same_position p a e))) i

mutual
  one_swapped : (x : Value) (q : Position) (h : Position → Held) (p : Position) (y : Held) → Apart q p
      → updated (held_with x q h) p y ≡ held_with x q (updated h p y)
  one_swapped (scalar ty z) q h p y a = updated_swapped h q p (single ty z) y (a [])
  one_swapped (fields t xs) q h p y a =
      one_swapped_all xs q 0 (updated h q parts) p y (apart_all q p 0 a) ∙ ap (all_held_with xs q 0) (updated_swapped h q p parts y (a []))
  one_swapped (elements e dims xs) q h p y a = updated_swapped h q p (table e dims xs) y (a [])

  one_swapped_all : (xs : Values) (q : Position) (k : ℕ) (h : Position → Held) (p : Position) (y : Held) → ApartFrom q k p
      → updated (all_held_with xs q k h) p y ≡ all_held_with xs q k (updated h p y)
  one_swapped_all no_values q k h p y a = refl
  one_swapped_all (next_value x xs) q k h p y a =
      one_swapped_all xs q (suc k) (held_with x (inner q k) h) p y (apart_later q p k a)
      ∙ ap (all_held_with xs q (suc k)) (one_swapped x (inner q k) h p y (here q p k a))

-- all parts of a position are apart from the fields of another from one on
abbrev AllApart : Position → (field : ℕ) → Position → Type 0
AllApart q k p = (path : List ℕ) → ApartFrom q k (part p path)

inner_all_apart : (q : Position) (k : ℕ) (p : Position) (i : ℕ) → AllApart q k p → AllApart q k (inner p i)
inner_all_apart q k p i a path = subst (λ z. ApartFrom q k (at p.root z)) (append_assoc path (i ∷ []) p.path) (a (path ++ (i ∷ [])))

mutual
  -- a value may be laid before others or behind them
  value_swapped : (x : Value) (p : Position) (ys : Values) (q : Position) (k : ℕ) (h : Position → Held) → AllApart q k p
      → held_with x p (all_held_with ys q k h) ≡ all_held_with ys q k (held_with x p h)
  value_swapped (scalar ty z) p ys q k h a = one_swapped_all ys q k h p (single ty z) (a [])
  value_swapped (fields t xs) p ys q k h a =
      ap (all_held_with xs p 0) (one_swapped_all ys q k h p parts (a [])) ∙ values_swapped xs p 0 ys q k (updated h p parts) a
  value_swapped (elements e dims xs) p ys q k h a = one_swapped_all ys q k h p (table e dims xs) (a [])

  values_swapped : (xs : Values) (p : Position) (i : ℕ) (ys : Values) (q : Position) (k : ℕ) (h : Position → Held) → AllApart q k p
      → all_held_with xs p i (all_held_with ys q k h) ≡ all_held_with ys q k (all_held_with xs p i h)
  values_swapped no_values p i ys q k h a = refl
  values_swapped (next_value x xs) p i ys q k h a =
      ap (all_held_with xs p (suc i)) (value_swapped x (inner p i) ys q k h (inner_all_apart q k p i a))
      ∙ values_swapped xs p (suc i) ys q k (held_with x (inner p i) h) a

pub field_swapped : (x : Value) (ys : Values) (q : Position) (k : ℕ) (h : Position → Held)
    → held_with x (inner q k) (all_held_with ys q (suc k) h) ≡ all_held_with ys q (suc k) (held_with x (inner q k) h)
field_swapped x ys q k h = value_swapped x (inner q k) ys q (suc k) h (field_apart q k)

-- so it is with variables that have different roots
pub roots_swapped : (x : Value) (p : Position) (y : Value) (q : Position) (h : Position → Held) → (p.root ≡ q.root → ⊥)
    → held_with x p (held_with y q h) ≡ held_with y q (held_with x p h)
roots_swapped x p (scalar ty z) q h o = sym (one_swapped x p h q (single ty z) (root_apart p q o))
roots_swapped x p (fields t ys) q h o =
    value_swapped x p ys q 0 (updated h q parts) (λ path. apart_all q (part p path) 0 (root_apart q (part p path) (λ e. o (sym e))))
    ∙ ap (all_held_with ys q 0) (sym (one_swapped x p h q parts (root_apart p q o)))
roots_swapped x p (elements e dims xs) q h o = sym (one_swapped x p h q (table e dims xs) (root_apart p q o))
