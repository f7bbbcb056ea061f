-- Variables by their owners and the statements that declare them, and how the statements of a procedure list them.
use Rattle.std.proofs.Common.{◌≡◌, ℕ, suc, ◌+◌, ◌<◌, ◌≤◌, Bool, true, false, nat_eq, List, [], ◌∷◌, ◌++◌, length, refl, sym, ap, subst, ◌∙◌, arith}
use Rattle.std.specs.Prelude.{cond, ◌&&◌}
use Rattle.std.specs.List.{AllByRecursion as Each}
use Rattle.vb_tree.specs.declared.declared.Owner.{Owner}
use Rattle.vb_tree.specs.Tree.{Form, Line}
use Rattle.upgrade_laws.proofs.Tests.{and_false, less, more, same}
use Rattle.upgrade_laws.proofs.Lists.{each_append, each_from, each_joined}

pub record Slot : Type 0 where
  pub owner : Owner
  pub file : ℕ
  pub statement : ℕ

abbrev pub is_at : (file n : ℕ) → Slot → Bool
is_at file n s = nat_eq s.file file && nat_eq s.statement n

-- the numbers from k on of those that pass
abbrev pub numbers : (Slot → Bool) → (k : ℕ) → List Slot → List ℕ
numbers test k [] = []
numbers test k (s ∷ ss) = cond (test s) (k ∷ numbers test (suc k) ss) (numbers test (suc k) ss)

abbrev pub any_slot : Slot → Bool
any_slot s = true

-- all of them
abbrev pub all_from : (k : ℕ) → List Slot → List ℕ
all_from k ss = numbers any_slot k ss

-- those that lines which pass declare, line by line
abbrev pub by_lines : (file : ℕ) → (Form → Bool) → (k : ℕ) → List Slot → (n : ℕ) → List Line → List ℕ
by_lines file test k ss n [] = []
by_lines file test k ss n (l ∷ ls) = cond (test l.form) (numbers (is_at file n) k ss) [] ++ by_lines file test k ss (suc n) ls

-- ---- statements

pub earlier : (file n : ℕ) (s : Slot) → s.statement < n → is_at file n s ≡ false
earlier file n s h = and_false (nat_eq s.file file) (nat_eq s.statement n) (less s.statement n h)

pub later : (file n : ℕ) (s : Slot) → n < s.statement → is_at file n s ≡ false
later file n s h = and_false (nat_eq s.file file) (nat_eq s.statement n) (more s.statement n h)

-- ---- numbers

shifted : (b : Bool) (k : ℕ) (xs ys zs : List ℕ) → xs ≡ ys ++ zs → cond b (k ∷ xs) xs ≡ cond b (k ∷ ys) ys ++ zs
shifted true k xs ys zs e = ap (λ (l : List ℕ). k ∷ l) e
shifted false k xs ys zs e = e

pub numbers_append : (test : Slot → Bool) (k : ℕ) (a b : List Slot) → numbers test k (a ++ b) ≡ numbers test k a ++ numbers test (k + length a) b
numbers_append test k [] b = ap (λ (i : ℕ). numbers test i b) (omega arith)
numbers_append test k (s ∷ a) b =
    shifted (test s) k (numbers test (suc k) (a ++ b)) (numbers test (suc k) a) (numbers test (k + length (s ∷ a)) b)
    (numbers_append test (suc k) a b ∙ ap (λ (i : ℕ). numbers test (suc k) a ++ numbers test i b) (omega arith))

skipped : (b : Bool) (k : ℕ) (xs : List ℕ) → b ≡ false → xs ≡ [] → cond b (k ∷ xs) xs ≡ []
skipped true k xs e h = absurd (cc e)
skipped false k xs e h = h

pub numbers_none : (test : Slot → Bool) (k : ℕ) (ss : List Slot) → Each (λ (s : Slot). test s ≡ false) ss → numbers test k ss ≡ []
numbers_none test k [] h = refl
numbers_none test k (s ∷ ss) h = skipped (test s) k (numbers test (suc k) ss) h.0 (numbers_none test (suc k) ss h.1)

taken : (b : Bool) (k : ℕ) (xs ys : List ℕ) → b ≡ true → xs ≡ ys → cond b (k ∷ xs) xs ≡ k ∷ ys
taken true k xs ys e h = ap (λ (l : List ℕ). k ∷ l) h
taken false k xs ys e h = absurd (cc e)

pub numbers_all : (test : Slot → Bool) (k : ℕ) (ss : List Slot) → Each (λ (s : Slot). test s ≡ true) ss → numbers test k ss ≡ all_from k ss
numbers_all test k [] h = refl
numbers_all test k (s ∷ ss) h = taken (test s) k (numbers test (suc k) ss) (all_from (suc k) ss) h.0 (numbers_all test (suc k) ss h.1)

pub ends : {X : Type 0} (xs : List X) → xs ++ [] ≡ xs
ends [] = refl
ends {X} (x ∷ xs) = ap (λ (l : List X). x ∷ l) (ends xs)

-- where those before and behind don't pass
pub middle : (test : Slot → Bool) (k : ℕ) (before mid after : List Slot) → Each (λ (s : Slot). test s ≡ false) before → Each (λ (s : Slot). test s ≡ false) after
    → numbers test k (before ++ (mid ++ after)) ≡ numbers test (k + length before) mid
middle test k before mid after h i =
    let at : ℕ = k + length before in
    numbers_append test k before (mid ++ after)
    ∙ ap (λ (l : List ℕ). l ++ numbers test at (mid ++ after)) (numbers_none test k before h)
    ∙ numbers_append test at mid after
    ∙ ap (λ (l : List ℕ). numbers test at mid ++ l) (numbers_none test (at + length mid) after i)
    ∙ ends (numbers test at mid)

-- ---- lines

-- one that no line which passes declares
abbrev pub Misses : (file : ℕ) → (Form → Bool) → (n : ℕ) → List Line → Slot → Type 0
Misses file test n [] s = Unit {0}
Misses file test n (l ∷ ls) s = (test l.form ≡ true → is_at file n s ≡ false) × Misses file test (suc n) ls s

one_line : (file n k : ℕ) (before mid after : List Slot) (b : Bool) → (b ≡ true → Each (λ (s : Slot). is_at file n s ≡ false) before)
    → (b ≡ true → Each (λ (s : Slot). is_at file n s ≡ false) after)
    → cond b (numbers (is_at file n) k (before ++ (mid ++ after))) [] ≡ cond b (numbers (is_at file n) (k + length before) mid) []
one_line file n k before mid after true h i = middle (is_at file n) k before mid after (h refl) (i refl)
one_line file n k before mid after false h i = refl

pub lines_of_middle : (file : ℕ) (test : Form → Bool) (k : ℕ) (before mid after : List Slot) (n : ℕ) (ls : List Line) → Each (Misses file test n ls) before
    → Each (Misses file test n ls) after → by_lines file test k (before ++ (mid ++ after)) n ls ≡ by_lines file test (k + length before) mid n ls
lines_of_middle file test k before mid after n [] h i = refl
lines_of_middle file test k before mid after n (l ∷ ls) h i =
    let heads : (ss : List Slot) → Each (Misses file test n (l ∷ ls)) ss → test l.form ≡ true → Each (λ (s : Slot). is_at file n s ≡ false) ss =
    λ ss m e. each_from (Misses file test n (l ∷ ls)) (λ (s : Slot). is_at file n s ≡ false) (λ s x. x.0 e) ss m in
    let tails : (ss : List Slot) → Each (Misses file test n (l ∷ ls)) ss → Each (Misses file test (suc n) ls) ss =
    λ ss m. each_from (Misses file test n (l ∷ ls)) (Misses file test (suc n) ls) (λ s x. x.1) ss m in
    ap (λ (x : List ℕ). x ++ by_lines file test k (before ++ (mid ++ after)) (suc n) ls) (one_line file n k before mid after (test l.form) (heads before h) (heads after i))
    ∙ ap (λ (x : List ℕ). cond (test l.form) (numbers (is_at file n) (k + length before) mid) [] ++ x)
    (lines_of_middle file test k before mid after (suc n) ls (tails before h) (tails after i))

-- ---- what lines lay one after the other

abbrev pub IsAt : (file n : ℕ) → Slot → Type 0
IsAt file n s = (s.file ≡ file) × (s.statement ≡ n)

-- each line which passes declares some, in order
abbrev pub Laid : (file : ℕ) → (Form → Bool) → (n : ℕ) → List Line → List Slot → Type 0
Laid file test n [] ss = ss ≡ []
Laid file test n (l ∷ ls) ss =
    (a : List Slot) × (b : List Slot) × (ss ≡ a ++ b) × Each (IsAt file n) a × (test l.form ≡ false → a ≡ []) × Laid file test (suc n) ls b

laid_behind : (file : ℕ) (test : Form → Bool) (n : ℕ) (ls : List Line) (ss : List Slot) → Laid file test n ls ss → Each (λ (s : Slot). n ≤ s.statement) ss
laid_behind file test n [] ss h = subst (λ (x : List Slot). Each (λ (s : Slot). n ≤ s.statement) x) (sym h) tt
laid_behind file test n (l ∷ ls) ss (a, b, e, at, none, rest) =
    subst (λ (x : List Slot). Each (λ (s : Slot). n ≤ s.statement) x) (sym e)
    (each_append (λ (s : Slot). n ≤ s.statement) a b
    (each_from (IsAt file n) (λ (s : Slot). n ≤ s.statement) (λ s x. omega (arith, x.1)) a at)
    (each_from (λ (s : Slot). suc n ≤ s.statement) (λ (s : Slot). n ≤ s.statement) (λ s x. omega (arith, x)) b (laid_behind file test (suc n) ls b rest)))

-- they stand at the statements of the lines
pub laid_within : (file : ℕ) (test : Form → Bool) (n : ℕ) (ls : List Line) (ss : List Slot) → Laid file test n ls ss
    → Each (λ (s : Slot). (s.file ≡ file) × (n ≤ s.statement) × (s.statement < n + length ls)) ss
laid_within file test n [] ss h = subst (λ (x : List Slot). Each (λ (s : Slot). (s.file ≡ file) × (n ≤ s.statement) × (s.statement < n + 0)) x) (sym h) tt
laid_within file test n (l ∷ ls) ss (a, b, e, at, none, rest) =
    let count : ℕ = length ls in
    subst (λ (x : List Slot). Each (λ (s : Slot). (s.file ≡ file) × (n ≤ s.statement) × (s.statement < n + suc count)) x) (sym e)
    (each_append (λ (s : Slot). (s.file ≡ file) × (n ≤ s.statement) × (s.statement < n + suc count)) a b
    (each_from (IsAt file n) (λ (s : Slot). (s.file ≡ file) × (n ≤ s.statement) × (s.statement < n + suc count))
    (λ s x. (x.0, omega (arith, x.1), omega (arith, x.1))) a at)
    (each_from (λ (s : Slot). (s.file ≡ file) × (suc n ≤ s.statement) × (s.statement < suc n + count))
    (λ (s : Slot). (s.file ≡ file) × (n ≤ s.statement) × (s.statement < n + suc count))
    (λ s x. (x.0, omega (arith, x.1), omega (arith, x.2))) b (laid_within file test (suc n) ls b rest)))

at_it : (file n : ℕ) (s : Slot) → IsAt file n s → is_at file n s ≡ true
at_it file n s h = ap (λ (f : ℕ). nat_eq f file && nat_eq s.statement n) h.0 ∙ ap (λ (m : ℕ). nat_eq file file && nat_eq m n) h.1 ∙ twice (nat_eq file file) (nat_eq n n) (same file) (same n)
  where
    twice : (a b : Bool) → a ≡ true → b ≡ true → (a && b) ≡ true
    twice true b e f = f
    twice false b e f = absurd (cc e)

early_misses : (file : ℕ) (test : Form → Bool) (n : ℕ) (ls : List Line) (s : Slot) → s.statement < n → Misses file test n ls s
early_misses file test n [] s h = tt
early_misses file test n (l ∷ ls) s h = ((λ e. earlier file n s h), early_misses file test (suc n) ls s (omega (arith, h)))

pub laid_lines : (file : ℕ) (test : Form → Bool) (k n : ℕ) (ls : List Line) (ss : List Slot) → Laid file test n ls ss → by_lines file test k ss n ls ≡ all_from k ss
laid_lines file test k n [] ss h = sym (ap (λ (x : List Slot). all_from k x) h)
laid_lines file test k n (l ∷ ls) ss (a, b, e, at, none, rest) =
    let at_k : ℕ = k + length a in
    ap (λ (x : List Slot). by_lines file test k x n (l ∷ ls)) e
    ∙ ap (λ (x : List ℕ). x ++ by_lines file test k (a ++ b) (suc n) ls) (head (test l.form) none)
    ∙ ap (λ (x : List ℕ). all_from k a ++ x)
    (ap (λ (x : List Slot). by_lines file test k (a ++ x) (suc n) ls) (sym (ends b))
    ∙ lines_of_middle file test k a b [] (suc n) ls
    (each_from (IsAt file n) (Misses file test (suc n) ls) (λ s x. early_misses file test (suc n) ls s (omega (arith, x.1))) a at) tt
    ∙ laid_lines file test at_k (suc n) ls b rest)
    ∙ sym (numbers_append any_slot k a b)
    ∙ sym (ap (λ (x : List Slot). all_from k x) e)
  where
    head : (c : Bool) → (c ≡ false → a ≡ []) → cond c (numbers (is_at file n) k (a ++ b)) [] ≡ all_from k a
    head true h =
        numbers_append (is_at file n) k a b
        ∙ ap (λ (x : List ℕ). numbers (is_at file n) k a ++ x) (numbers_none (is_at file n) (k + length a) b
        (each_from (λ (s : Slot). suc n ≤ s.statement) (λ (s : Slot). is_at file n s ≡ false) (λ s x. later file n s (omega (arith, x))) b (laid_behind file test (suc n) ls b rest)))
        ∙ ends (numbers (is_at file n) k a)
        ∙ numbers_all (is_at file n) k a (each_from (IsAt file n) (λ (s : Slot). is_at file n s ≡ true) (λ s x. at_it file n s x) a at)
    head false h = sym (ap (λ (x : List Slot). all_from k x) (h refl))

never : (file n : ℕ) (ss : List Slot) → Each (λ (s : Slot). false ≡ true → is_at file n s ≡ false) ss
never file n [] = tt
never file n (s ∷ ss) = ((λ f. absurd (cc f)), never file n ss)

-- what lines lay that pass one test is missed by those that pass another
pub laid_misses : (file : ℕ) (test other : Form → Bool) → ((f : Form) → other f ≡ true → test f ≡ false) → (n : ℕ) (ls : List Line) (ss : List Slot)
    → Laid file test n ls ss → Each (Misses file other n ls) ss
laid_misses file test other d n [] ss h = subst (λ (x : List Slot). Each (Misses file other n []) x) (sym h) tt
laid_misses file test other d n (l ∷ ls) ss (a, b, e, at, none, rest) =
    subst (λ (x : List Slot). Each (Misses file other n (l ∷ ls)) x) (sym e)
    (each_append (Misses file other n (l ∷ ls)) a b
    (each_joined (λ (s : Slot). other l.form ≡ true → is_at file n s ≡ false) (Misses file other (suc n) ls) (Misses file other n (l ∷ ls)) (λ s x y. (x, y)) a
    (own (other l.form) (λ f. none (d l.form f)))
    (each_from (IsAt file n) (Misses file other (suc n) ls) (λ s x. early_misses file other (suc n) ls s (omega (arith, x.1))) a at))
    (each_joined (λ (s : Slot). suc n ≤ s.statement) (Misses file other (suc n) ls) (Misses file other n (l ∷ ls))
    (λ s x y. ((λ f. later file n s (omega (arith, x))), y)) b
    (laid_behind file test (suc n) ls b rest)
    (laid_misses file test other d (suc n) ls b rest)))
  where
    own : (c : Bool) → (c ≡ true → a ≡ []) → Each (λ (s : Slot). c ≡ true → is_at file n s ≡ false) a
    own true h = subst (λ (x : List Slot). Each (λ (s : Slot). true ≡ true → is_at file n s ≡ false) x) (sym (h refl)) tt
    own false h = never file n a
