-- The variables of a procedure stand in a row among those that are declared, and in a row among those that no line declares.
use Rattle.std.proofs.Common.{◌≡◌, ℕ, suc, ◌+◌, ◌<◌, ◌≤◌, Bool, true, false, List, [], ◌∷◌, ◌++◌, length, refl, sym, ap, subst, ◌∙◌, append_assoc, length-append, arith}
use Rattle.std.specs.Prelude.{◌||◌}
use Rattle.std.specs.List.{AllByRecursion as Each}
use Rattle.vb_tree.specs.Blocks.{is_code}
use Rattle.vb_tree.specs.Tree.{Form, Line, variables, constants}
use Rattle.written_trees.specs.Prologues.{declares}
use Rattle.vb6_run.specs.Programs.{is_local_of, is_static_of}
use Rattle.upgrade_laws.proofs.Lists.{each_append, each_from, each_joined, each_left, each_right}
use Rattle.upgrade_laws.proofs.Slots.{Slot, is_at, numbers, numbers_append, numbers_all, all_from, by_lines, middle, Misses, Laid, lines_of_middle, laid_lines, laid_misses}

-- one that isn't owned by a procedure, and stands at none of so many statements from one on
pub record IsAway (p file n count : ℕ) (s : Slot) : Type 0 where
  pub misses : (j : ℕ) → n ≤ j → j < n + count → is_at file j s ≡ false
  pub foreign : is_local_of p s.owner ≡ false

abbrev pub is_own : (procedure : ℕ) → Slot → Bool
is_own p s = is_local_of p s.owner || is_static_of p s.owner

abbrev pub IsOwn : (procedure : ℕ) → Slot → Type 0
IsOwn p s = is_own p s ≡ true

-- what lines which pass lay, among others
pub record Stretch (p file : ℕ) (test : Form → Bool) (n : ℕ) (ls : List Line) (ss : List Slot) : Type 0 where
  pub before : List Slot
  pub mid : List Slot
  pub after : List Slot
  pub parts : ss ≡ before ++ (mid ++ after)
  pub first : Each (IsAway p file n (length ls)) before
  pub last : Each (IsAway p file n (length ls)) after
  pub laid : Laid file test n ls mid
  pub owned : Each (IsOwn p) mid

pub stretch_behind : (p file : ℕ) (test : Form → Bool) (n : ℕ) (ls : List Line) (more ss : List Slot) → Each (IsAway p file n (length ls)) more
    → Stretch p file test n ls ss → Stretch p file test n ls (more ++ ss)
stretch_behind p file test n ls more ss h s = record {
  before = more ++ s.before;
  mid = s.mid;
  after = s.after;
  parts = ap (λ (x : List Slot). more ++ x) s.parts ∙ sym (append_assoc more s.before (s.mid ++ s.after));
  first = each_append (IsAway p file n (length ls)) more s.before h s.first;
  last = s.last;
  laid = s.laid;
  owned = s.owned;
}

pub stretch_before : (p file : ℕ) (test : Form → Bool) (n : ℕ) (ls : List Line) (ss more : List Slot) → Stretch p file test n ls ss
    → Each (IsAway p file n (length ls)) more → Stretch p file test n ls (ss ++ more)
stretch_before p file test n ls ss more s h = record {
  before = s.before;
  mid = s.mid;
  after = s.after ++ more;
  parts =
      ap (λ (x : List Slot). x ++ more) s.parts
      ∙ append_assoc s.before (s.mid ++ s.after) more
      ∙ ap (λ (x : List Slot). s.before ++ x) (append_assoc s.mid s.after more);
  first = s.first;
  last = each_append (IsAway p file n (length ls)) s.after more s.last h;
  laid = s.laid;
  owned = s.owned;
}

-- ---- how they are listed

away_misses : (p file : ℕ) (test : Form → Bool) (n : ℕ) (ls : List Line) (s : Slot) → IsAway p file n (length ls) s → Misses file test n ls s
away_misses p file test n [] s h = tt
away_misses p file test n (l ∷ ls) s h = (
  (λ e. h.misses n (omega arith) (omega arith)),
  away_misses p file test (suc n) ls s (record { misses = λ j low high. h.misses j (omega (arith, low)) (omega (arith, high)); foreign = h.foreign }),
)

all_miss : (p file : ℕ) (test : Form → Bool) (n : ℕ) (ls : List Line) (ss : List Slot) → Each (IsAway p file n (length ls)) ss → Each (Misses file test n ls) ss
all_miss p file test n ls ss h = each_from (IsAway p file n (length ls)) (Misses file test n ls) (λ s x. away_misses p file test n ls s x) ss h

all_foreign : (p file n count : ℕ) (ss : List Slot) → Each (IsAway p file n count) ss → Each (λ (s : Slot). is_local_of p s.owner ≡ false) ss
all_foreign p file n count ss h = each_from (IsAway p file n count) (λ (s : Slot). is_local_of p s.owner ≡ false) (λ s x. x.foreign) ss h

abbrev local_slot : (procedure : ℕ) → Slot → Bool
local_slot p s = is_local_of p s.owner

abbrev pub IsNotStatic : (procedure : ℕ) → Slot → Type 0
IsNotStatic p s = is_static_of p s.owner ≡ false

one_of : (a b : Bool) → (a || b) ≡ true → b ≡ false → a ≡ true
one_of true b h e = refl
one_of false b h e = absurd (cc (h, e))

all_local : (p : ℕ) (ss : List Slot) → Each (IsOwn p) ss → Each (IsNotStatic p) ss → Each (λ (s : Slot). local_slot p s ≡ true) ss
all_local p ss h k =
    each_joined (IsOwn p) (IsNotStatic p) (λ (s : Slot). local_slot p s ≡ true) (λ s x y. one_of (is_local_of p s.owner) (is_static_of p s.owner) x y) ss h k

-- its variables are those that it owns
owned_are : (p file : ℕ) (test : Form → Bool) (n : ℕ) (ls : List Line) (k : ℕ) (ss : List Slot) (s : Stretch p file test n ls ss) → Each (IsNotStatic p) ss
    → numbers (local_slot p) k ss ≡ all_from (k + length s.before) s.mid
owned_are p file test n ls k ss s h =
    let parted : Each (IsNotStatic p) (s.before ++ (s.mid ++ s.after)) = subst (λ (x : List Slot). Each (IsNotStatic p) x) s.parts h in
    let mine : Each (IsNotStatic p) s.mid = each_left (IsNotStatic p) s.mid s.after (each_right (IsNotStatic p) s.before (s.mid ++ s.after) parted) in
    ap (λ (x : List Slot). numbers (local_slot p) k x) s.parts
    ∙ middle (local_slot p) k s.before s.mid s.after (all_foreign p file n (length ls) s.before s.first) (all_foreign p file n (length ls) s.after s.last)
    ∙ numbers_all (local_slot p) (k + length s.before) s.mid (all_local p s.mid s.owned mine)

no_code : (f : Form) → is_code f ≡ true → declares f ≡ false
no_code (variables w ds) h = absurd (cc h)
no_code (constants v cs) h = absurd (cc h)
no_code _ h = refl

no_declaration : (f : Form) → declares f ≡ true → is_code f ≡ false
no_declaration (variables w ds) h = refl
no_declaration (constants v cs) h = refl
no_declaration _ h = absurd (cc h)

-- those that lines declare, then those that code lines use first
pub own_numbers : (p file n : ℕ) (ls : List Line) (xs ys : List Slot) → Stretch p file declares n ls xs → Stretch p file is_code n ls ys
    → Each (IsNotStatic p) (xs ++ ys)
    → by_lines file declares 0 (xs ++ ys) n ls ++ by_lines file is_code 0 (xs ++ ys) n ls ≡ numbers (local_slot p) 0 (xs ++ ys)
own_numbers p file n ls xs ys s t h =
    ap (λ (x : List ℕ). x ++ by_lines file is_code 0 (xs ++ ys) n ls) declared
    ∙ ap (λ (x : List ℕ). all_from (0 + length s.before) s.mid ++ x) used
    ∙ sym
    (numbers_append (local_slot p) 0 xs ys
    ∙ ap (λ (k : ℕ). numbers (local_slot p) 0 xs ++ numbers (local_slot p) k ys) (nought (length xs))
    ∙ ap (λ (x : List ℕ). x ++ numbers (local_slot p) (length xs) ys) (owned_are p file declares n ls 0 xs s (each_left (IsNotStatic p) xs ys h))
    ∙ ap (λ (x : List ℕ). all_from (0 + length s.before) s.mid ++ x) (owned_are p file is_code n ls (length xs) ys t (each_right (IsNotStatic p) xs ys h)))
  where
    nought : (a : ℕ) → 0 + a ≡ a
    nought a = omega arith

    behind : (a b c : ℕ) → c ≡ a + b → 0 + c ≡ a + b
    behind a b c e = omega (arith, e)

    joined : xs ++ ys ≡ s.before ++ (s.mid ++ (s.after ++ ys))
    joined =
        ap (λ (x : List Slot). x ++ ys) s.parts
        ∙ append_assoc s.before (s.mid ++ s.after) ys
        ∙ ap (λ (x : List Slot). s.before ++ x) (append_assoc s.mid s.after ys)

    ys_miss : Each (Misses file declares n ls) ys
    ys_miss =
        subst (λ (x : List Slot). Each (Misses file declares n ls) x) (sym t.parts)
        (each_append (Misses file declares n ls) t.before (t.mid ++ t.after) (all_miss p file declares n ls t.before t.first)
        (each_append (Misses file declares n ls) t.mid t.after
        (laid_misses file is_code declares no_declaration n ls t.mid t.laid) (all_miss p file declares n ls t.after t.last)))

    declared : by_lines file declares 0 (xs ++ ys) n ls ≡ all_from (0 + length s.before) s.mid
    declared =
        ap (λ (x : List Slot). by_lines file declares 0 x n ls) joined
        ∙ lines_of_middle file declares 0 s.before s.mid (s.after ++ ys) n ls (all_miss p file declares n ls s.before s.first)
        (each_append (Misses file declares n ls) s.after ys (all_miss p file declares n ls s.after s.last) ys_miss)
        ∙ laid_lines file declares (0 + length s.before) n ls s.mid s.laid

    split : xs ++ ys ≡ (xs ++ t.before) ++ (t.mid ++ t.after)
    split = ap (λ (x : List Slot). xs ++ x) t.parts ∙ sym (append_assoc xs t.before (t.mid ++ t.after))

    xs_miss : Each (Misses file is_code n ls) xs
    xs_miss =
        subst (λ (x : List Slot). Each (Misses file is_code n ls) x) (sym s.parts)
        (each_append (Misses file is_code n ls) s.before (s.mid ++ s.after) (all_miss p file is_code n ls s.before s.first)
        (each_append (Misses file is_code n ls) s.mid s.after
        (laid_misses file declares is_code no_code n ls s.mid s.laid) (all_miss p file is_code n ls s.after s.last)))

    used : by_lines file is_code 0 (xs ++ ys) n ls ≡ all_from (length xs + length t.before) t.mid
    used =
        ap (λ (x : List Slot). by_lines file is_code 0 x n ls) split
        ∙ lines_of_middle file is_code 0 (xs ++ t.before) t.mid t.after n ls
        (each_append (Misses file is_code n ls) xs t.before xs_miss (all_miss p file is_code n ls t.before t.first)) (all_miss p file is_code n ls t.after t.last)
        ∙ ap (λ (k : ℕ). by_lines file is_code k t.mid n ls) (behind (length xs) (length t.before) (length (xs ++ t.before)) (length-append xs t.before))
        ∙ laid_lines file is_code (length xs + length t.before) n ls t.mid t.laid
