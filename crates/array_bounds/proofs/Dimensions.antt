-- The lower bounds of all dimensions are, at each dimension, those that are given in it, and so are the ranks.
use Rattle.std.proofs.Common.{◌≡◌, ℕ, zero, suc, ◌+◌, ◌<◌, true, false, cond, List, [], ◌∷◌, ◌++◌, map, length, refl, ap, sym, ◌∙◌, arith, nat_eq, Some, None, zero-add}
use Rattle.std.specs.Prelude.{ℤ, pos, Option, slice_get}
use Rattle.std.specs.List.{flat_map}
use Rattle.std.proofs.lemmas.Bool.Decides.{nat_tests}
use Rattle.std.proofs.lemmas.Grind.{flat_map-append}
use Rattle.std.proofs.lemmas.List.{map-append}
use Rattle.bound_tree.specs.Tree.{Line, Variable, Declarations, Program}
use Rattle.bound_facts.specs.Bounds.{array_at, given, low_in, low_at, resize_low, low_items, bound_low, declared_lows, lows, home_base, resize_rank, rank_items, fixed_rank, declared_ranks, ranks}
use Rattle.bound_facts.specs.Items.{items_from, project_items}
use Rattle.bound_facts.specs.Parts.{Extent, Resize, resized_by}
use Rattle.array_bounds.specs.declared.givens.Given.{Given}
use Rattle.array_bounds.specs.Givens.{given_at, extent_lows, resize_lows, line_lows, bound_lows, variable_lows, all_lows, resize_ranks, line_ranks, whole, variable_ranks, all_ranks, in_dimension, at_dimension}

pub same_number : (n : ℕ) → nat_eq n n ≡ true
same_number n = grind (arith, nat_tests)

other_number : (n m : ℕ) → m < n → nat_eq n m ≡ false
other_number n m h = grind (arith, nat_tests)

next_number : (n m : ℕ) → nat_eq n (n + suc m) ≡ false
next_number n m = grind (arith, nat_tests)

both_parts : (d : ℕ) (xs ys : List Given) (us vs : List (ℕ × ℤ)) → at_dimension d xs ≡ us → at_dimension d ys ≡ vs → at_dimension d (xs ++ ys) ≡ us ++ vs
both_parts d xs ys us vs h k = flat_map-append (in_dimension d) xs ys ∙ ap (λ (zs : List (ℕ × ℤ)). zs ++ at_dimension d ys) h ∙ ap (λ (zs : List (ℕ × ℤ)). us ++ zs) k

-- ---- one number

at_its : (a : Option ℕ) (d : ℕ) (z : Option ℤ) → at_dimension d (given_at a d z) ≡ given a z
at_its None d z = refl
at_its (Some a) d None = refl
at_its (Some a) d (Some z) = ap (λ b. cond b ((a, z) ∷ []) [] ++ []) (same_number d)

at_other : (a : Option ℕ) (n d : ℕ) (z : Option ℤ) → nat_eq n d ≡ false → at_dimension d (given_at a n z) ≡ []
at_other None n d z h = refl
at_other (Some a) n d None h = refl
at_other (Some a) n d (Some z) h = ap (λ b. cond b ((a, z) ∷ []) [] ++ []) h

given_none : {X : Type 0} (a : Option ℕ) → given {X = X} a None ≡ []
given_none None = refl
given_none (Some a) = refl

-- ---- the extents of an array

extents_before : (base : ℤ) (a : Option ℕ) (n d : ℕ) (xs : List Extent) → d < n → at_dimension d (extent_lows base a n xs) ≡ []
extents_before base a n d [] h = refl
extents_before base a n d (x ∷ xs) h =
    both_parts d (given_at a n (low_in base x.0)) (extent_lows base a (suc n) xs) [] [] (at_other a n d (low_in base x.0) (other_number n d h)) (extents_before base a (suc n) d xs (omega arith))

extents_at : (base : ℤ) (a : Option ℕ) (n m : ℕ) (xs : List Extent) → at_dimension (n + m) (extent_lows base a n xs) ≡ given a (low_at base (slice_get xs m))
extents_at base a n m [] = sym (given_none a)
extents_at base a n zero (x ∷ xs) =
    let here : n + zero ≡ n = omega arith in
    ap (λ d. at_dimension d (extent_lows base a n (x ∷ xs))) here
    ∙ both_parts n (given_at a n (low_in base x.0)) (extent_lows base a (suc n) xs) (given a (low_in base x.0)) [] (at_its a n (low_in base x.0)) (extents_before base a (suc n) n xs (omega arith))
    ∙ append_none (given a (low_in base x.0))
  where
    append_none : (zs : List (ℕ × ℤ)) → zs ++ [] ≡ zs
    append_none [] = refl
    append_none (z ∷ zs) = ap (λ ys. z ∷ ys) (append_none zs)
extents_at base a n (suc m) (x ∷ xs) =
    let further : n + suc m ≡ suc n + m = omega arith in
    both_parts (n + suc m) (given_at a n (low_in base x.0)) (extent_lows base a (suc n) xs) [] (given a (low_at base (slice_get xs m))) (at_other a n (n + suc m) (low_in base x.0) (next_number n m))
    (ap (λ d. at_dimension d (extent_lows base a (suc n) xs)) further ∙ extents_at base a (suc n) m xs)

resize_at : (D : Declarations) (base : ℤ) (d : ℕ) (r : Resize) → at_dimension d (resize_lows D base r) ≡ resize_low D base d r
resize_at D base d r = ap (λ n. at_dimension n (resize_lows D base r)) (sym (zero-add d)) ∙ extents_at base (array_at D r.array) 0 d r.extents

-- ---- the bounds of a fixed array

bounds_before : (k n d : ℕ) (bs : List (ℤ × ℤ)) → d < n → at_dimension d (bound_lows k n bs) ≡ []
bounds_before k n d [] h = refl
bounds_before k n d (b ∷ bs) h = both_parts d (given_at (Some k) n (Some b.0)) (bound_lows k (suc n) bs) [] [] (at_other (Some k) n d (Some b.0) (other_number n d h)) (bounds_before k (suc n) d bs (omega arith))

bounds_at : (k n m : ℕ) (bs : List (ℤ × ℤ)) → at_dimension (n + m) (bound_lows k n bs) ≡ given (Some k) (bound_low (slice_get bs m))
bounds_at k n m [] = refl
bounds_at k n zero (b ∷ bs) =
    let here : n + zero ≡ n = omega arith in
    ap (λ d. at_dimension d (bound_lows k n (b ∷ bs))) here
    ∙ both_parts n (given_at (Some k) n (Some b.0)) (bound_lows k (suc n) bs) (given (Some k) (Some b.0)) [] (at_its (Some k) n (Some b.0)) (bounds_before k (suc n) n bs (omega arith))
bounds_at k n (suc m) (b ∷ bs) =
    let further : n + suc m ≡ suc n + m = omega arith in
    both_parts (n + suc m) (given_at (Some k) n (Some b.0)) (bound_lows k (suc n) bs) [] (given (Some k) (bound_low (slice_get bs m))) (at_other (Some k) n (n + suc m) (Some b.0) (next_number n m))
    (ap (λ d. at_dimension d (bound_lows k (suc n) bs)) further ∙ bounds_at k (suc n) m bs)

variables_at : (d k : ℕ) (vars : List Variable) → at_dimension d (variable_lows k vars) ≡ declared_lows d k vars
variables_at d k [] = refl
variables_at d k (x ∷ xs) =
    both_parts d (bound_lows k 0 x.bounds) (variable_lows (suc k) xs) (given (Some k) (bound_low (slice_get x.bounds d))) (declared_lows d (suc k) xs)
    (ap (λ n. at_dimension n (bound_lows k 0 x.bounds)) (sym (zero-add d)) ∙ bounds_at k 0 d x.bounds) (variables_at d (suc k) xs)

-- ---- the lines of a project

each_at : {X : Type 0} (d : ℕ) (f : X → List Given) (g : X → List (ℕ × ℤ)) → ((x : X) → at_dimension d (f x) ≡ g x) → (xs : List X) → at_dimension d (flat_map f xs) ≡ flat_map g xs
each_at d f g same [] = refl
each_at d f g same (x ∷ xs) = both_parts d (f x) (flat_map f xs) (g x) (flat_map g xs) (same x) (each_at d f g same xs)

items_at : (d : ℕ) (f : ℕ → Line → List Given) (g : ℕ → Line → List (ℕ × ℤ)) → ((i : ℕ) (l : Line) → at_dimension d (f i l) ≡ g i l) → (i : ℕ) (bodies : List (List Line))
    → at_dimension d (items_from f i bodies) ≡ items_from g i bodies
items_at d f g same i [] = refl
items_at d f g same i (b ∷ bs) = both_parts d (flat_map (f i) b) (items_from f (i + 1) bs) (flat_map (g i) b) (items_from g (i + 1) bs) (each_at d (f i) (g i) (same i) b) (items_at d f g same (i + 1) bs)

pub lows_at : (P : Program) (d : ℕ) → at_dimension d (all_lows P) ≡ lows P d
lows_at P d =
    let D = P.declarations in
    both_parts d (variable_lows 0 D.vars) (project_items (line_lows D) P.bodies) (declared_lows d 0 D.vars) (project_items (low_items D d) P.bodies) (variables_at d 0 D.vars)
    (items_at d (line_lows D) (low_items D d)
    (λ i l. each_at d (resize_lows D (home_base D (slice_get D.procs i))) (resize_low D (home_base D (slice_get D.procs i)) d) (resize_at D (home_base D (slice_get D.procs i)) d) (resized_by l.source.form l.bindings.exprs))
    0 P.bodies)

-- ---- ranks

abbrev pub as_whole : ℕ × ℕ → ℕ × ℤ
as_whole p = (p.0, pos p.1)

rank_at_zero : (a : Option ℕ) (r : Option ℕ) → at_dimension 0 (given_at a 0 (whole r)) ≡ map as_whole (given a r)
rank_at_zero None None = refl
rank_at_zero None (Some r) = refl
rank_at_zero (Some a) None = refl
rank_at_zero (Some a) (Some r) = refl

whole_variables : (k : ℕ) (vars : List Variable) → at_dimension 0 (variable_ranks k vars) ≡ map as_whole (declared_ranks k vars)
whole_variables k [] = refl
whole_variables k (x ∷ xs) =
    both_parts 0 (given_at (Some k) 0 (whole (fixed_rank x.ty))) (variable_ranks (suc k) xs) (map as_whole (given (Some k) (fixed_rank x.ty))) (map as_whole (declared_ranks (suc k) xs))
    (rank_at_zero (Some k) (fixed_rank x.ty)) (whole_variables (suc k) xs)
    ∙ sym (map-append as_whole (given (Some k) (fixed_rank x.ty)) (declared_ranks (suc k) xs))

map_each : {X : Type 0} (f : X → List (ℕ × ℕ)) (xs : List X) → flat_map (λ x. map as_whole (f x)) xs ≡ map as_whole (flat_map f xs)
map_each f [] = refl
map_each f (x ∷ xs) = ap (λ (ys : List (ℕ × ℤ)). map as_whole (f x) ++ ys) (map_each f xs) ∙ sym (map-append as_whole (f x) (flat_map f xs))

map_items : (f : ℕ → Line → List (ℕ × ℕ)) (i : ℕ) (bodies : List (List Line)) → items_from (λ j l. map as_whole (f j l)) i bodies ≡ map as_whole (items_from f i bodies)
map_items f i [] = refl
map_items f i (b ∷ bs) =
    ap (λ (ys : List (ℕ × ℤ)). flat_map (λ l. map as_whole (f i l)) b ++ ys) (map_items f (i + 1) bs) ∙ ap (λ (ys : List (ℕ × ℤ)). ys ++ map as_whole (items_from f (i + 1) bs)) (map_each (f i) b)
    ∙ sym (map-append as_whole (flat_map (f i) b) (items_from f (i + 1) bs))

pub ranks_at : (P : Program) → at_dimension 0 (all_ranks P) ≡ map as_whole (ranks P)
ranks_at P =
    let D = P.declarations in
    both_parts 0 (variable_ranks 0 D.vars) (project_items (line_ranks D) P.bodies) (map as_whole (declared_ranks 0 D.vars)) (project_items (λ i l. map as_whole (rank_items D i l)) P.bodies) (whole_variables 0 D.vars)
    (items_at 0 (line_ranks D) (λ i l. map as_whole (rank_items D i l))
    (λ i l. each_at 0 (resize_ranks D) (λ r. map as_whole (resize_rank D r)) (λ r. rank_at_zero (array_at D r.array) (Some (length r.extents))) (resized_by l.source.form l.bindings.exprs) ∙ map_each (resize_rank D) (resized_by l.source.form l.bindings.exprs))
    0 P.bodies)
    ∙ ap (λ (ys : List (ℕ × ℤ)). map as_whole (declared_ranks 0 D.vars) ++ ys) (map_items (rank_items D) 0 P.bodies)
    ∙ sym (map-append as_whole (declared_ranks 0 D.vars) (project_items (rank_items D) P.bodies))
