-- Variables that a frame has on both sides: at a later world, by their numbers and by their names.
use Rattle.std.proofs.Common.{◌≡◌, ◌++◌, ◌⊎◌, ⊎_elim, inl, inr, refl, sym, ap, subst, ◌∙◌, ℕ, zero, suc, ◌+◌, ◌<◌, ◌≤◌, Bool, true, false, cond, not, ◌&&◌, nat_eq, true≢false, Option, Some, None, List, [], ◌∷◌, map, arith, eq-eqb, eqb-true}
use Rattle.std.specs.Prelude.{◌||◌, slice_get}
use Rattle.std.specs.List.{list_any}
use Rattle.std.specs.Map.{lookup}
use Rattle.up_base.proofs.Tests.{both_true, either, neither, not_true}
use Rattle.up_base.specs.Names.{is_same_name}
use Rattle.bound_tree.specs.Tree.{Variable}
use Rattle.run_base.specs.Positions.{Position, Root, made, shared, field, whole}
use Rattle.vb6_run.specs.Programs.{is_local_of, owned_from}
use Rattle.vb6_run.specs.Shapes.{Shape, variable_shape}
use Rattle.vb6_run.specs.Store.{Address, constant, item, root}
use Rattle.net_run.specs.Names.{var_in}
use Rattle.net_run.specs.Store as net
use Rattle.written_trees.specs.Names.{Scope}
use Rattle.run_matches.specs.Addresses.{Same, position_of, same_item, same_root}
use Rattle.run_matches.specs.CoveredVariables.{are_different, is_named_in}
use Rattle.run_matches.specs.CoveredLines.{is_local_in}
use Rattle.run_matches.specs.Frames.{IsOwnAddress, is_own_of, is_place, stands_in, is_mirrored}
use Rattle.run_matches.specs.Maps.{Below, IsMade, World, mark}
use Rattle.run_matches.specs.Match.{MemoryMatch}
use Rattle.run_matches.specs.Pledges.{IsOld, Later, Pledge}
use Rattle.run_matches.specs.Sites.{Own, own_constant, own_name, own_variable, local_numbers}
use Rattle.run_matches.specs.Upgrades.{Upgrade}
use Rattle.run_statements.specs.Frames.{IsUsable}
use Rattle.written_trees.specs.Prologues.{is_static}
use Rattle.agreeing_laws.proofs.Made.{more, same_at}
use Rattle.agreeing_laws.proofs.Moves.{all_matched_later, all_ranked_later, matched_whole}
use Rattle.run_laws.specs.Entered.{LocalMatch, LocalsMatch, StaticMatch, no_locals, next_constant, next_static, next_variable, AllSound, GivenVariable, OwnPlace, static_in}
use Rattle.line_laws.proofs.Bounds as bounds
use Rattle.line_laws.proofs.Bounds.{bound_later, plain_later}
use Rattle.run_laws.proofs.Covered.{not_none, same_name, some_is}

-- ---- places

not_less : (a b : ℕ) → a ≤ b → b < a → ⊥
not_less a b x y = omega arith

abbrev or_whole : Option Position → Position
or_whole None = whole (made 0)
or_whole (Some q) = q

-- what an address in a place says of its position
pub position_is : (a : Address) (s : Shape) (q p : Position) → a ≡ root s q → position_of a ≡ Some p → q ≡ p
position_is a s q p e is = ap (λ b. or_whole (position_of b)) (sym e) ∙ ap or_whole is

pub same_made : (U : Upgrade) (K : Pledge) (w : World) (a : Address) (b : net.Address) (s : Shape) (n : ℕ) → Same U K w a b → a ≡ root s (whole (made n))
    → n < w.src.next
same_made U K w _ _ s n (same_root t d q sh m r) e =
    subst (λ (z : Position). IsMade (mark w.src) z.root) (ap (λ b. or_whole (position_of b)) e) (matched_whole U w t q m).is_made
same_made U K w _ _ s n (same_item f t d q k j path keeps m has part sh) e = absurd (cc e)

at_place : (n : ℕ) (r : Root) → is_place n r ≡ true → made n ≡ r
at_place n (shared k) h = absurd (true≢false (sym h))
at_place n (made m) h = ap made (eqb-true n m h)
at_place n (field o k) h = absurd (true≢false (sym h))

pub stands_new : (K : Pledge) (n : ℕ) (a : Address) → stands_in n a ≡ true → IsOwnAddress K a → IsOld K (made n) → ⊥
stands_new K n (root s q) h own old = own q refl (subst (λ r. IsOld K r) (at_place n q.root h) old)
stands_new K n (item e q j path) h own old = own q refl (subst (λ r. IsOld K r) (at_place n q.root h) old)
stands_new K n (constant x) h own old = absurd (true≢false (sym h))

-- a place that was made since the mark is no old one
pub new_place : (K : Pledge) (w : World) (a : Address) (s : Shape) → Below K.base (mark w.src) → a ≡ root s (whole (made w.src.next)) → IsOwnAddress K a
new_place K w a s low e q is old =
    not_less K.base.places w.src.next low.places
    (subst (λ (z : Position). IsOld K z.root) (sym (position_is a s (whole (made w.src.next)) q e is)) old).is_made

-- ---- what a new variable is at a later world

pub local_later : (U : Upgrade) (K : Pledge) (w0 w1 : World) (v : ℕ) (a : Address) (b : net.Address) → MemoryMatch U w0 → Later U K w0 w1
    → LocalMatch U K w0 v a b → LocalMatch U K w1 v a b
local_later U K w0 w1 v a b h l m = record {
  bound = bound_later U K w0 w1 h l (not (is_mirrored U v)) a b m.bound;
  ranked = m.ranked;
  standing = by m.standing;
}
  where
    by : OwnPlace U K w0 v a ⊎ GivenVariable U w0 v a → OwnPlace U K w1 v a ⊎ GivenVariable U w1 v a
    by (inl x) = inl (record {
      place = record {
        place = x.place.place;
        stands = x.place.stands;
        is_made = more x.place.place w0.src.next w1.src.next l.grows.places x.place.is_made;
        declared = l.extends.same_declared x.place.place x.place.is_made ∙ x.place.declared;
      };
      own = x.own;
    })
    by (inr x) = inr (record {
      given = x.given;
      plain = plain_later U w0 w1 a l.extends (λ q e. bounds.bound_made U K w0 (not (is_mirrored U v)) a b h m.bound q e) x.plain;
      foreign = x.foreign;
    })

-- so is a Static
pub static_later : (U : Upgrade) (K : Pledge) (holder : Option ℕ) (w0 w1 : World) (v : ℕ) (b : net.Address) → Later U K w0 w1 → StaticMatch U holder w0 v b
    → StaticMatch U holder w1 v b
static_later U K holder w0 w1 v b l m =
    let s : Shape = variable_shape U.program.declarations v in
    let q : Position = whole (static_in holder v) in
    record {
      written = m.written;
      same = m.same;
      matched = all_matched_later U K w0 w1 l s q m.matched;
      ranked = all_ranked_later U K w0 w1 l s m.written q m.matched m.ranked;
      stands = m.stands ∙ ap (net.root m.written) (sym (same_at U w0 w1 l.extends q (matched_whole U w0 s q m.matched).is_made));
    }

-- ---- the numbers of local variables

or_more : (a b : Bool) → b ≡ true → a || b ≡ true
or_more true b h = refl
or_more false b h = h

pub local_listed : (p v k i : ℕ) (xs : List Variable) → is_local_in p (slice_get xs i) ≡ true → v ≡ k + i
    → list_any (nat_eq v) (owned_from (is_local_of p) k xs) ≡ true
local_listed p v k i [] h e = absurd (true≢false (sym h))
local_listed p v k zero (x ∷ xs) h e =
    let here : v ≡ k = omega (arith, e) in
    ap (λ t. list_any (nat_eq v) (cond t (k ∷ owned_from (is_local_of p) (suc k) xs) (owned_from (is_local_of p) (suc k) xs))) h
    ∙ ap (λ t. t || list_any (nat_eq v) (owned_from (is_local_of p) (suc k) xs)) (eq-eqb v k here)
local_listed p v k (suc i) (x ∷ xs) h e = by (is_local_of p x.owner) (local_listed p v (suc k) i xs h (omega (arith, e)))
  where
    by : (t : Bool) → list_any (nat_eq v) (owned_from (is_local_of p) (suc k) xs) ≡ true
        → list_any (nat_eq v) (cond t (k ∷ owned_from (is_local_of p) (suc k) xs) (owned_from (is_local_of p) (suc k) xs)) ≡ true
    by true more = or_more (nat_eq v k) (list_any (nat_eq v) (owned_from (is_local_of p) (suc k) xs)) more
    by false more = more

-- and so it is behind others
pub listed_behind : (v : ℕ) (os more : List Own) → list_any (nat_eq v) (local_numbers more) ≡ true
    → list_any (nat_eq v) (local_numbers (os ++ more)) ≡ true
listed_behind v [] more h = h
listed_behind v (own_variable u x ∷ os) more h = by (is_static x.owner) (listed_behind v os more h)
  where
    by : (t : Bool) → list_any (nat_eq v) (local_numbers (os ++ more)) ≡ true
        → list_any (nat_eq v) (cond t [] (u ∷ []) ++ local_numbers (os ++ more)) ≡ true
    by true m = m
    by false m = or_more (nat_eq v u) (list_any (nat_eq v) (local_numbers (os ++ more))) m
listed_behind v (own_constant c x ∷ os) more h = listed_behind v os more h

-- ---- finding a variable

-- the variable of a number, which the target has by its name; other names aren't its own
pub record Found (U : Upgrade) (K : Pledge) (w : World) (v : ℕ) (a : Address) (os : List Own) (ys : List (List ℕ × net.Address)) : Type 0 where
  pub variable : Variable
  pub is_variable : slice_get U.program.declarations.vars v ≡ Some variable
  pub usable : IsUsable U v
  pub address : net.Address
  pub found : var_in ys variable.name ≡ Some address
  pub match : LocalMatch U K w v a address
  pub apart : (name : List ℕ) → is_named_in name (map own_name os) ≡ false → is_same_name name variable.name ≡ false

module _ (U : Upgrade) (S : Scope) (K : Pledge) (holder : Option ℕ) (w : World) where
  -- behind a declaration of another name
  found_behind : (o : Own) (b : List ℕ × net.Address) (v : ℕ) (a : Address) (os : List Own) (ys : List (List ℕ × net.Address)) → b.0 ≡ own_name o
      → is_named_in (own_name o) (map own_name os) ≡ false → Found U K w v a os ys → Found U K w v a (o ∷ os) (b ∷ ys)
  found_behind o b v a os ys e other f = record {
    variable = f.variable;
    is_variable = f.is_variable;
    usable = f.usable;
    address = f.address;
    found =
        ap (λ t. cond t (Some b.1) (var_in ys f.variable.name))
        (ap (λ n. is_same_name n f.variable.name) e ∙ f.apart (own_name o) other) ∙ f.found;
    match = f.match;
    apart = λ name h. f.apart name (neither (is_same_name name (own_name o)) (is_named_in name (map own_name os)) h).1;
  }

  first_differs : (o : Own) (os : List Own) → are_different (map own_name (o ∷ os)) ≡ true
      → (is_named_in (own_name o) (map own_name os) ≡ false) × (are_different (map own_name os) ≡ true)
  first_differs o os h =
      let both = both_true (not (is_named_in (own_name o) (map own_name os))) (are_different (map own_name os)) h in
      (not_true (is_named_in (own_name o) (map own_name os)) both.0, both.1)

  pub local_found : (os : List Own) (xs : List (ℕ × Address)) (ys : List (List ℕ × net.Address)) → LocalsMatch U K holder w os xs ys → AllSound U S os
      → are_different (map own_name os) ≡ true → (v : ℕ) (a : Address) → lookup (nat_eq v) xs ≡ Some a → Found U K w v a os ys
  local_found _ _ _ no_locals sound different v a e = absurd (not_none e)
  local_found _ _ _ (next_variable u x c b os xs ys local name m rest) sound different v a e =
      by (nat_eq v u) refl e (λ z. local_found os xs ys rest sound.1 (first_differs (own_variable u x) os different).1 v a z)
    where
      by : (t : Bool) → nat_eq v u ≡ t → cond t (Some c) (lookup (nat_eq v) xs) ≡ Some a → (lookup (nat_eq v) xs ≡ Some a → Found U K w v a os ys)
          → Found U K w v a (own_variable u x ∷ os) (b ∷ ys)
      by true same z more =
          let one : v ≡ u = eqb-true v u same in
          let at = ap (λ n. is_same_name n x.name) name ∙ same_name x.name in
          subst (λ n. Found U K w n a (own_variable u x ∷ os) (b ∷ ys)) (sym one) (record {
            variable = x;
            is_variable = sound.0.1;
            usable = sound.0.0;
            address = b.1;
            found = ap (λ t. cond t (Some b.1) (var_in ys x.name)) at;
            match = subst (λ d. LocalMatch U K w u d b.1) (some_is z) m;
            apart = λ n h. (neither (is_same_name n x.name) (is_named_in n (map own_name os)) h).0;
          })
      by false same z more = found_behind (own_variable u x) b v a os ys name (first_differs (own_variable u x) os different).0 (more z)
  local_found _ _ _ (next_static u x b os xs ys static name m rest) sound different v a e =
      found_behind (own_variable u x) b v a os ys name (first_differs (own_variable u x) os different).0
      (local_found os xs ys rest sound.1 (first_differs (own_variable u x) os different).1 v a e)
  local_found _ _ _ (next_constant c x b os xs ys name rest) sound different v a e =
      found_behind (own_constant c x) b v a os ys name (first_differs (own_constant c x) os different).0
      (local_found os xs ys rest sound.1 (first_differs (own_constant c x) os different).1 v a e)

  -- each variable is there
  pub local_there : (os : List Own) (xs : List (ℕ × Address)) (ys : List (List ℕ × net.Address)) → LocalsMatch U K holder w os xs ys → (v : ℕ)
      → list_any (nat_eq v) (local_numbers os) ≡ true → (a : Address) × (lookup (nat_eq v) xs ≡ Some a)
  local_there _ _ _ no_locals v h = absurd (true≢false (sym h))
  local_there _ _ _ (next_variable u x a b os xs ys local name m rest) v h =
      by (nat_eq v u) (sym (ap (λ t. list_any (nat_eq v) (cond t [] (u ∷ []) ++ local_numbers os)) local) ∙ h) (local_there os xs ys rest v)
    where
      by : (t : Bool) → t || list_any (nat_eq v) (local_numbers os) ≡ true
          → (list_any (nat_eq v) (local_numbers os) ≡ true → (a : Address) × (lookup (nat_eq v) xs ≡ Some a))
          → (d : Address) × (cond t (Some a) (lookup (nat_eq v) xs) ≡ Some d)
      by true e more = (a, refl)
      by false e more = more e
  local_there _ _ _ (next_static u x b os xs ys static name m rest) v h =
      local_there os xs ys rest v (sym (ap (λ t. list_any (nat_eq v) (cond t [] (u ∷ []) ++ local_numbers os)) static) ∙ h)
  local_there _ _ _ (next_constant c x b os xs ys name rest) v h = local_there os xs ys rest v h

  -- the target has all names
  pub local_names : (os : List Own) (xs : List (ℕ × Address)) (ys : List (List ℕ × net.Address)) → LocalsMatch U K holder w os xs ys
      → map (λ (y : List ℕ × net.Address). y.0) ys ≡ map own_name os
  local_names _ _ _ no_locals = refl
  local_names _ _ _ (next_variable v x a b os xs ys local name m rest) =
      let more = local_names os xs ys rest in
      λ i. name i ∷ more i
  local_names _ _ _ (next_static v x b os xs ys static name m rest) =
      let more = local_names os xs ys rest in
      λ i. name i ∷ more i
  local_names _ _ _ (next_constant c x b os xs ys name rest) =
      let more = local_names os xs ys rest in
      λ i. name i ∷ more i

  -- no place of theirs is an old one
  pub local_places : (p : ℕ) (os : List Own) (xs : List (ℕ × Address)) (ys : List (List ℕ × net.Address)) → LocalsMatch U K holder w os xs ys → (n : ℕ)
      → list_any (λ (x : ℕ × Address). is_own_of U p x.0 && stands_in n x.1) xs ≡ true → IsOld K (made n) → ⊥
  local_places p _ _ _ no_locals n h old = true≢false (sym h)
  local_places p _ _ _ (next_variable v x a b os xs ys local name m rest) n h old =
      by (either (is_own_of U p v && stands_in n a) (list_any (λ (x : ℕ × Address). is_own_of U p x.0 && stands_in n x.1) xs) h)
      (λ z. local_places p os xs ys rest n z old)
    where
      by : (is_own_of U p v && stands_in n a ≡ true) ⊎ (list_any (λ (x : ℕ × Address). is_own_of U p x.0 && stands_in n x.1) xs ≡ true)
          → (list_any (λ (x : ℕ × Address). is_own_of U p x.0 && stands_in n x.1) xs ≡ true → ⊥) → ⊥
      by (inl z) more =
          let both = both_true (is_own_of U p v) (stands_in n a) z in
          ⊎_elim (λ (x : OwnPlace U K w v a). stands_new K n a both.1 x.own old)
          (λ (x : GivenVariable U w v a). true≢false (sym both.0 ∙ x.foreign p)) m.standing
      by (inr z) more = more z
  local_places p _ _ _ (next_static v x b os xs ys static name m rest) n h old = local_places p os xs ys rest n h old
  local_places p _ _ _ (next_constant c x b os xs ys name rest) n h old = local_places p os xs ys rest n h old

pub locals_later : (U : Upgrade) (K : Pledge) (holder : Option ℕ) (w0 w1 : World) (os : List Own) (xs : List (ℕ × Address)) (ys : List (List ℕ × net.Address))
    → MemoryMatch U w0 → Later U K w0 w1 → LocalsMatch U K holder w0 os xs ys → LocalsMatch U K holder w1 os xs ys
locals_later U K holder w0 w1 _ _ _ h l no_locals = no_locals
locals_later U K holder w0 w1 _ _ _ h l (next_static v x b os xs ys static name m rest) =
    next_static v x b os xs ys static name (static_later U K holder w0 w1 v b.1 l m) (locals_later U K holder w0 w1 os xs ys h l rest)
locals_later U K holder w0 w1 _ _ _ h l (next_variable v x a b os xs ys local name m rest) =
    next_variable v x a b os xs ys local name (local_later U K w0 w1 v a b.1 h l m) (locals_later U K holder w0 w1 os xs ys h l rest)
locals_later U K holder w0 w1 _ _ _ h l (next_constant c x b os xs ys name rest) =
    next_constant c x b os xs ys name (locals_later U K holder w0 w1 os xs ys h l rest)
