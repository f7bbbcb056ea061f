-- What a parameter by reference is bound to.
use Rattle.std.proofs.Common.{◌≡◌, refl, sym, ap, subst, ◌∙◌, ◌&&◌, inl, inr, ℕ, suc, ℤ, Bool, true, false, nat_eq, true≢false, eq-eqb, eqb-true, Some, List, [], ◌∷◌, ◌++◌}
use Rattle.vb_tree.specs.BoundTree as types
use Rattle.vb_tree.specs.BoundTree.{Ty}
use Rattle.vb_tree.specs.declared.declared.Owner.{Owner}
use Rattle.vb_tree.specs.declared.declared.Owner.TheVariants as owner
use Rattle.net_tree.specs.declared.declaration.NetPassing.{NetPassing}
use Rattle.net_tree.specs.declared.declaration.NetPassing.TheVariants as passing
use Rattle.net_tree.specs.Types.{TypeName}
use Rattle.bound_facts.specs.Locks.{is_same_type}
use Rattle.run_base.specs.Frames.{by_address, by_value}
use Rattle.run_base.specs.Outcomes.{Outcome, after, gives, outside, then}
use Rattle.run_base.specs.Positions.{Position, field, made, shared, whole}
use Rattle.vb6_run.specs.Programs.{bound_to}
use Rattle.vb6_run.specs.Shapes.{Shape, group, array, endless, is_same_shape, simple, user_shapes, variable_shape}
use Rattle.vb6_run.specs.Store.{Address, Memory, SourceGiven, is_address_of, item, laid, locked_by, make_with, provided, root, write, Locked}
use Rattle.vb6_run.specs.Values.{Value, elements, fields, is_makeable, scalar}
use Rattle.net_run.specs.Program.{parameter_by}
use Rattle.net_run.specs.Shapes as shape
use Rattle.net_run.specs.Store as net
use Rattle.net_run.specs.Values as net_value
use Rattle.run_matches.specs.Addresses.{HasParameterRank, IsDeclaredAt, IsDeclaredShape, IsTarget, Same, same_item, same_root, AllLocked, ArgsMatch, IsElement, IsVariable, address_args, no_args, source_bound, target_bound, value_args}
use Rattle.run_matches.specs.Agreeing.{Agrees}
use Rattle.run_matches.specs.CoveredVariables.{covers_type}
use Rattle.run_matches.specs.Covered.{is_parameter_of}
use Rattle.run_matches.specs.Frames.{GivenPlace, StandsAs}
use Rattle.run_matches.specs.Likeness.{SameShape, same_array, same_class, same_scalar, scalar_word}
use Rattle.run_matches.specs.Maps.{World}
use Rattle.run_matches.specs.Pledges.{Pledge, NetGiven}
use Rattle.run_matches.specs.SoundShapes.{IsSoundShape}
use Rattle.run_matches.specs.Upgrades.{Upgrade, parameter_rank}
use Rattle.run_matches.specs.UserTypes.{is_group_type}
use Rattle.run_statements.specs.Arrays.{array_shape}
use Rattle.run_statements.specs.Frames.{HasRankOf, IsArray, IsReadable}
use Rattle.expression_laws.proofs.Types.{same_of}
use Rattle.memory_laws.proofs.Making.{readable_shape, readable_type}
use Rattle.agreeing_laws.proofs.Agreeing.{agrees_outside}
use Rattle.run_laws.specs.Entered.{IsTaken}
use Rattle.run_laws.proofs.Covered.{some_is}
use Rattle.run_laws.proofs.Usable.{array_shape_is, group_type_is, result_declared, result_shape}

-- ---- values

-- a value makes a place of its own, whatever the parameter takes
pub value_bound : (p : ℕ) (o : Owner) → is_parameter_of p o ≡ true → (s : Shape) (x : Value) (w : Memory) → bound_to false o s (by_value x) w ≡ make_with s x w
value_bound p (owner.Value q) h s x w = refl
value_bound p (owner.Reference q) h s x w = refl
value_bound p _ h s x w = absurd (true≢false (sym h))

pub value_taken : (z : NetPassing) (s : shape.Shape) (y : net_value.Value) (w : net.Memory) → parameter_by z s (by_value y) w ≡ net.made_with s y w
value_taken passing.Value s y w = refl
value_taken passing.Reference s y w = refl

-- ---- addresses

-- the type of a scalar, or of an object of a class
type_same : (U : Upgrade) (s t : Ty) → IsSoundShape U (simple s) → is_same_type s t ≡ true → t ≡ s
type_same U s t (inl c) h = same_of s t c h
type_same U s t (inr k) h = sym (group_type_is s t (ap is_group_type k.2) h)

simple_same : (U : Upgrade) (ty : Ty) (s : Shape) → IsSoundShape U (simple ty) → is_same_shape (simple ty) s ≡ true → s ≡ simple ty
simple_same U ty (simple t) c h = ap simple (type_same U ty t c h)
simple_same U ty (group t fs) c h = absurd (true≢false (sym h))
simple_same U ty (array e bounds) c h = absurd (true≢false (sym h))
simple_same U ty endless c h = absurd (true≢false (sym h))

-- an array of the same elements, perhaps with other bounds
array_same : (U : Upgrade) (element : Ty) (bounds : List (ℤ × ℤ)) (s : Shape) → covers_type element ≡ true
    → is_same_shape (array (simple element) bounds) s ≡ true → (others : List (ℤ × ℤ)) × (s ≡ array (simple element) others)
array_same U element bounds (simple t) c h = absurd (true≢false (sym h))
array_same U element bounds (group t fs) c h = absurd (true≢false (sym h))
array_same U element bounds (array e others) c h = (others, ap (λ z. array z others) (simple_same U element e (inl c) h))
array_same U element bounds endless c h = absurd (true≢false (sym h))

-- the same shape
address_same : (s d : Shape) (a : Address) (q : Position) → a ≡ root d q → is_address_of s a ≡ true → is_same_shape s d ≡ true
address_same s d a q e h = sym (ap (is_address_of s) e) ∙ h

-- an address of a shape stands as that shape
pub stands_itself : (s : Shape) (a : Address) (q : Position) → a ≡ root s q → StandsAs s a q
stands_itself (simple ty) a q e = inl e
stands_itself (group t fs) a q e = e
stands_itself (array f bounds) a q e = (bounds, e)
stands_itself endless a q e = e

-- a scalar, an object, or a user type of the number, with the fields that it declares
sound_same : (U : Upgrade) (d s : Shape) → IsSoundShape U d → IsDeclaredShape U d → IsDeclaredShape U s → is_same_shape d s ≡ true → s ≡ d
sound_same U (simple ty) s c declared other h = simple_same U ty s c h
sound_same U (group t fs) (group u gs) c declared other h = sym other ∙ ap (user_shapes U.program.declarations) (sym (eqb-true t u h)) ∙ declared
sound_same U (group t fs) (simple ty) c declared other h = absurd (true≢false (sym h))
sound_same U (group t fs) (array e bounds) c declared other h = absurd (true≢false (sym h))
sound_same U (group t fs) endless c declared other h = absurd (true≢false (sym h))
sound_same U (array e bounds) s c declared other h = absurd c
sound_same U endless s c declared other h = absurd c

sound_stands : (U : Upgrade) (d : Shape) → IsSoundShape U d → IsDeclaredShape U d → (a : Address) (s : Shape) (q : Position) → a ≡ root s q
    → IsDeclaredAt U a → is_address_of d a ≡ true → StandsAs d a q
sound_stands U d c whole a s q e declared h =
    stands_itself d a q (e ∙ ap (λ z. root z q) (sound_same U d s c whole (subst (λ z. IsDeclaredAt U z) e declared) (address_same d s a q e h)))

stands_as : (U : Upgrade) (v : ℕ) → IsTaken U v → (a : Address) (s : Shape) (q : Position) → a ≡ root s q → IsDeclaredAt U a
    → is_address_of (variable_shape U.program.declarations v) a ≡ true → StandsAs (variable_shape U.program.declarations v) a q
stands_as U v (inl r) a s q e declared h =
    let d : Shape = variable_shape U.program.declarations v in
    sound_stands U d (result_shape U v (inl r)) (result_declared U v (inl r)) a s q e declared h
stands_as U v (inr (inr x)) a s q e declared h =
    let d : Shape = variable_shape U.program.declarations v in
    sound_stands U d (result_shape U v (inr x)) (result_declared U v (inr x)) a s q e declared h
stands_as U v (inr (inl x)) a s q e declared h =
    let r : IsArray U v x.0 = x.1 in
    let bounds = r.known.variable.bounds in
    let is : variable_shape U.program.declarations v ≡ array (simple x.0) bounds = array_shape_is U v x.0 r in
    let z = array_same U x.0 bounds s r.covers (address_same (array (simple x.0) bounds) s a q e (subst (λ d. is_address_of d a ≡ true) is h)) in
    subst (λ d. StandsAs d a q) (sym is) (z.0, e ∙ ap (λ d. root d q) z.1)

-- an element of an array stands as a scalar of its type, or as an object
sound_element : (U : Upgrade) (d : Shape) → IsSoundShape U d → (a : Address) (x : IsElement a) → is_same_shape d (simple x.ty) ≡ true → StandsAs d a x.array
sound_element U (simple ty) c a x h = inr (x.index, x.stands ∙ ap (λ d. item d x.array x.index []) (simple_same U ty (simple x.ty) c h))
sound_element U (group t fs) c a x h = absurd (true≢false (sym h))
sound_element U (array e bounds) c a x h = absurd c
sound_element U endless c a x h = absurd c

element_stands : (U : Upgrade) (v : ℕ) → IsTaken U v → (a : Address) (x : IsElement a) → is_address_of (variable_shape U.program.declarations v) a ≡ true
    → StandsAs (variable_shape U.program.declarations v) a x.array
element_stands U v (inl r) a x h =
    let d : Shape = variable_shape U.program.declarations v in
    sound_element U d (result_shape U v (inl r)) a x (sym (ap (is_address_of d) x.stands) ∙ h)
element_stands U v (inr (inr g)) a x h =
    let d : Shape = variable_shape U.program.declarations v in
    sound_element U d (result_shape U v (inr g)) a x (sym (ap (is_address_of d) x.stands) ∙ h)
element_stands U v (inr (inl y)) a x h =
    let r : IsArray U v y.0 = y.1 in
    let bounds = r.known.variable.bounds in
    absurd (true≢false
    (sym (sym (ap (is_address_of (array (simple y.0) bounds)) x.stands) ∙ subst (λ d. is_address_of d a ≡ true) (array_shape_is U v y.0 r) h)))

-- a scalar has no fields
scalar_at : (U : Upgrade) (v : ℕ) (r : IsReadable U v) (a : Address) (s : Shape) (q : Position) → a ≡ root s q
    → is_address_of (variable_shape U.program.declarations v) a ≡ true → IsDeclaredAt U a
scalar_at U v r a s q e h =
    let ty : Ty = r.variable.ty in
    let same : s ≡ simple ty =
    simple_same U ty s (inl (readable_type U v r)) (address_same (simple ty) s a q e (subst (λ d. is_address_of d a ≡ true) (readable_shape U v r) h)) in
    subst (λ z. IsDeclaredAt U z) (sym (e ∙ ap (λ d. root d q) same)) tt

pub scalar_declared : (U : Upgrade) (v : ℕ) (r : IsReadable U v) (a : Address) → IsVariable U a
    → is_address_of (variable_shape U.program.declarations v) a ≡ true → IsDeclaredAt U a
scalar_declared U v r a (inl p) h = scalar_at U v r a p.shape (record { root = made p.place; path = p.path }) p.stands h
scalar_declared U v r a (inr (inl k)) h = scalar_at U v r a k.of_shape (record { root = shared (k.variable ∷ []); path = k.path }) k.stands h
scalar_declared U v r a (inr (inr k)) h = scalar_at U v r a k.of_shape (record { root = field k.object (k.variable ∷ []); path = k.path }) k.stands h

module _ (U : Upgrade) (v : ℕ) (r : IsTaken U v) where
  -- an address of the parameter's shape that can be written
  pub given_place : (a : Address) → IsTarget U a → IsDeclaredAt U a → is_address_of (variable_shape U.program.declarations v) a ≡ true → GivenPlace U v a
  given_place a (inl (inl p)) declared h = record {
    position = record { root = made p.place; path = p.path };
    stands = stands_as U v r a p.shape (record { root = made p.place; path = p.path }) p.stands declared h;
    target = inl (inl p);
  }
  given_place a (inl (inr (inl k))) declared h = record {
    position = record { root = shared (k.variable ∷ []); path = k.path };
    stands = stands_as U v r a k.of_shape (record { root = shared (k.variable ∷ []); path = k.path }) k.stands declared h;
    target = inl (inr (inl k));
  }
  given_place a (inl (inr (inr k))) declared h = record {
    position = record { root = field k.object (k.variable ∷ []); path = k.path };
    stands = stands_as U v r a k.of_shape (record { root = field k.object (k.variable ∷ []); path = k.path }) k.stands declared h;
    target = inl (inr (inr k));
  }
  given_place a (inr x) declared h = record { position = x.array; stands = element_stands U v r a x h; target = inr x }

pub word_itself : (ty : Ty) (t : TypeName) → covers_type ty ≡ true → scalar_word ty ≡ Some t → shape.is_same_word t t ≡ true
word_itself types.boolean t c e = subst (λ z. shape.is_same_word z z ≡ true) (some_is e) refl
word_itself types.byte t c e = subst (λ z. shape.is_same_word z z ≡ true) (some_is e) refl
word_itself types.integer t c e = subst (λ z. shape.is_same_word z z ≡ true) (some_is e) refl
word_itself types.long t c e = subst (λ z. shape.is_same_word z z ≡ true) (some_is e) refl
word_itself types.currency t c e = subst (λ z. shape.is_same_word z z ≡ true) (some_is e) refl
word_itself types.str t c e = subst (λ z. shape.is_same_word z z ≡ true) (some_is e) refl
word_itself _ t c e = absurd (true≢false (sym c))

pub root_shape : (s t : Shape) (q p : Position) → root s q ≡ root t p → s ≡ t
root_shape s t q p e = cc e

pub no_item : (e s : Shape) (q p : Position) (j : ℕ) (path : List ℕ) → item e q j path ≡ root s p → ⊥
no_item e s q p j path x = cc x

-- a written scalar
element_written : (U : Upgrade) (ty : Ty) (t : TypeName) (d : shape.Shape) → covers_type ty ≡ true → scalar_word ty ≡ Some t → SameShape U (simple ty) d
    → d ≡ shape.scalar t
element_written U _ t _ c w (same_scalar ty u e) = ap (λ z. shape.scalar z) (some_is (sym e ∙ w))
element_written U _ t _ c w (same_class k home e) = absurd (true≢false (sym c))

-- ---- arrays

-- what is written for an array has some rank
list_written : (U : Upgrade) (e : Shape) (bounds : List (ℤ × ℤ)) (d : shape.Shape) → SameShape U (array e bounds) d
    → (x : shape.Shape) × (rank : ℕ) × (d ≡ shape.array x rank) × SameShape U e x
list_written U _ _ _ (same_array e bounds d rank s) = (d, rank, refl, s)

array_written : (U : Upgrade) (element : Ty) (bounds : List (ℤ × ℤ)) (t : TypeName) (d : shape.Shape) → covers_type element ≡ true
    → scalar_word element ≡ Some t → SameShape U (array (simple element) bounds) d → (rank : ℕ) × (d ≡ shape.array (shape.scalar t) rank)
array_written U element bounds t d c w same =
    let x = list_written U (simple element) bounds d same in
    (x.1, x.2 ∙ ap (λ z. shape.array z x.1) (element_written U element t x.0 c w x.3))

image_written : (U : Upgrade) (K : Pledge) (w : World) (element : Ty) (t : TypeName) (bounds : List (ℤ × ℤ)) (a : Address) (b : net.Address) (p : Position)
    → covers_type element ≡ true → scalar_word element ≡ Some t → Same U K w a b → a ≡ root (array (simple element) bounds) p
    → (rank : ℕ) × (net.shape_at b ≡ shape.array (shape.scalar t) rank)
image_written U K w element t bounds _ _ p c word (same_root s d q sh m r) e =
    array_written U element bounds t d c word (subst (λ z. SameShape U z d) (root_shape s (array (simple element) bounds) q p e) sh)
image_written U K w element t bounds _ _ p c word (same_item e s d q k j path keeps m has part sh) is =
    absurd (no_item e (array (simple element) bounds) q p j path is)

-- its image has the parameter's type exactly, where it has the rank of the parameter
pub array_taken : (U : Upgrade) (K : Pledge) (w : World) (v : ℕ) (element : Ty) (t : TypeName) (bounds : List (ℤ × ℤ)) (a : Address) (b : net.Address)
    (p : Position) → covers_type element ≡ true → scalar_word element ≡ Some t → Same U K w a b → a ≡ root (array (simple element) bounds) p
    → HasRankOf U v (net.shape_at b) → shape.is_same_shape (net.shape_at b) (array_shape U v t) ≡ true
array_taken U K w v element t bounds a b p c word same at ranked =
    let x = image_written U K w element t bounds a b p c word same at in
    let rank : x.0 ≡ U.facts.rank v = subst (λ d. HasRankOf U v d) x.1 ranked in
    ap (λ z. shape.is_same_shape z (array_shape U v t)) x.1
    ∙ ap (λ b. b && nat_eq x.0 (U.facts.rank v)) (word_itself element t c word) ∙ eq-eqb x.0 (U.facts.rank v) rank

-- a parameter's rank
pub rank_for : (U : Upgrade) (p i v : ℕ) (d : shape.Shape) → parameter_rank U p i ≡ U.facts.rank v → HasParameterRank U p i d → HasRankOf U v d
rank_for U p i v (shape.array d rank) e h = h ∙ e
rank_for U p i v (shape.scalar t) e h = tt
rank_for U p i v (shape.class home) e h = tt
rank_for U p i v (shape.structured home member fs) e h = tt
rank_for U p i v shape.shapeless e h = tt

-- ---- values that are no arrays, given to one

abbrev pub IsNoElements : Value → Type 0
IsNoElements (scalar ty z) = Unit {0}
IsNoElements (fields t xs) = Unit {0}
IsNoElements (elements e dims xs) = ⊥

write_none : (e : Shape) (bounds : List (ℤ × ℤ)) (x : Value) (q : Position) (m : Memory) → IsNoElements x
    → write [] x (root (array e bounds) q) m ≡ outside []
write_none e [] (scalar ty z) q m n = refl
write_none e [] (fields t xs) q m n = refl
write_none e [] (elements f dims xs) q m n = absurd n
write_none e (b ∷ bounds) x q m n = refl

abbrev lays : Bool → Shape → Position → Memory → Outcome Memory Unit
lays b s q m = provided b (λ v. gives [] tt (laid s q v)) m

pub made_none : {A B : Type 0} (U : Upgrade) (K : Pledge) (w : World) (R : World → A → B → Type 0) (e : Shape) (bounds : List (ℤ × ℤ)) (x : Value)
    → IsNoElements x → (k : Address → Memory → Outcome Memory A) (r' : Outcome net.Memory B)
    → Agrees U K w R (then (make_with (array e bounds) x w.src) k) r'
made_none {A} {B} U K w R e bounds x n k r' = by (is_makeable s)
  where
    s : Shape
    s = array e bounds

    q : Position
    q = whole (made w.src.next)

    writes : Address → Memory → Outcome Memory Address
    writes a m = then (write [] x a m) (λ u m. gives [] a m)

    by : (b : Bool)
        → Agrees U K w R
        (then (then (then (lays b s q (record w.src { next = suc w.src.next })) (λ u m. gives [] (root s q) m)) writes) k) r'
    by true =
        subst (λ z. Agrees U K w R (then (after [] (then z (λ u m. gives [] (root s q) m))) k) r')
        (sym (write_none e bounds x q (laid s q (record w.src { next = suc w.src.next })) n)) (agrees_outside U K w R r')
    by false = agrees_outside U K w R r'

-- ---- locks

-- a variable locks no array
given_unlocked : (U : Upgrade) (a : Address) (xs : List SourceGiven) → IsVariable U a → locked_by (by_address a ∷ xs) ≡ locked_by xs
given_unlocked U a xs (inl p) = ap (λ z. locked_by (by_address z ∷ xs)) p.stands
given_unlocked U a xs (inr (inl k)) = ap (λ z. locked_by (by_address z ∷ xs)) k.stands
given_unlocked U a xs (inr (inr k)) = ap (λ z. locked_by (by_address z ∷ xs)) k.stands

given_locks : (U : Upgrade) (K : Pledge) (w : World) (a : Address) (b : net.Address) (xs : List SourceGiven) → Same U K w a b → AllLocked U K w (locked_by xs)
    → AllLocked U K w (locked_by (by_address a ∷ xs))
given_locks U K w _ _ xs (same_root s d q sh m r) rest = rest
given_locks U K w _ _ xs (same_item e s d q k j path keeps m has part sh) rest =
    (record { element = e; array = k; is_matched = m; stands = has; kept = keeps }, rest)

-- the arrays are kept of which elements are given
pub locks_given : (U : Upgrade) (K : Pledge) (w : World) (p i : ℕ) (xs : List SourceGiven) (ys : List NetGiven) → ArgsMatch U K w p i xs ys
    → AllLocked U K w (locked_by xs)
locks_given U K w p _ _ _ (no_args i) = tt
locks_given U K w p _ _ _ (value_args i x y xs ys like none value rest) = locks_given U K w p (suc i) xs ys rest
locks_given U K w p _ _ _ (address_args i a b xs ys same target whole plain ranked rest) =
    given_locks U K w a b xs same (locks_given U K w p (suc i) xs ys rest)
locks_given U K w p _ _ _ (source_bound i a s y xs ys quiet value mirrors target there plain rest) =
    subst (λ ls. AllLocked U K w ls) (sym (given_unlocked U a xs target)) (locks_given U K w p (suc i) xs ys rest)
locks_given U K w p _ _ _ (target_bound i x b xs ys quiet value takes mirrors typed rest) = locks_given U K w p (suc i) xs ys rest

pub locks_joined : (U : Upgrade) (K : Pledge) (w : World) (xs ys : Locked) → AllLocked U K w xs → AllLocked U K w ys → AllLocked U K w (xs ++ ys)
locks_joined U K w [] ys h k = k
locks_joined U K w (q ∷ xs) ys h k = (h.0, locks_joined U K w xs ys h.1 k)
