-- Each comment of a module belongs to one of its members, or stands behind the last one.
use Rattle.std.proofs.Common.{◌≡◌, ℕ, ◌≤◌, true, cond, List, [], ◌∷◌, ◌++◌, refl, sym, ap, ◌∙◌, append_assoc, arith}
use Rattle.std.proofs.lemmas.Bool.Decides.{nat_tests}
use Rattle.std.specs.List.{flat_map}
use Rattle.std.specs.Prelude.{nat_le, nat_lt}
use Rattle.up_base.proofs.Lists.{by_test}
use Rattle.vb_tree.specs.Tree.{Member}
use Rattle.written_trees.specs.Comments.{Comment, before, from, past, up_to}
use Rattle.written_trees.specs.Placing.{Numbers, behind_member, first_line, last_comments, last_line, place_member, placed_members}
use Rattle.correspondence.specs.Comments.{comments_of}
use Rattle.correspondence.specs.Paths.{Each}
use Rattle.correspondence.proofs.Merging.{up_and_past}

before_and_from : (n : ℕ) (cs : List Comment) → before n cs ++ from n cs ≡ cs
before_and_from n [] = refl
before_and_from n (c ∷ cs) =
    by_test (nat_lt c.0 n) (λ b. cond b (c ∷ before n cs) [] ++ cond b (from n cs) (c ∷ cs) ≡ c ∷ cs)
    (λ e. ap {B = List Comment} (λ ds. c ∷ ds) (before_and_from n cs))
    (λ e. refl)

not_past : (c n : ℕ) → nat_lt c n ≡ true → nat_le c n ≡ true
not_past c n e = grind (arith, nat_tests)

further : (c n k : ℕ) → nat_le c n ≡ true → n ≤ k → nat_le c k ≡ true
further c n k e h = grind (arith, nat_tests)

from_and_past : (n : ℕ) (cs : List Comment) → past n (from n cs) ≡ past n cs
from_and_past n [] = refl
from_and_past n (c ∷ cs) =
    by_test (nat_lt c.0 n) (λ b. past n (cond b (from n cs) (c ∷ cs)) ≡ past n (c ∷ cs))
    (λ e. from_and_past n cs ∙ ap {B = List Comment} (λ b. cond b (past n cs) (c ∷ cs)) (sym (not_past c.0 n e)))
    (λ e. refl)

past_twice : (n k : ℕ) (cs : List Comment) → n ≤ k → past k (past n cs) ≡ past k cs
past_twice n k [] h = refl
past_twice n k (c ∷ cs) h =
    by_test (nat_le c.0 n) (λ b. past k (cond b (past n cs) (c ∷ cs)) ≡ past k (c ∷ cs))
    (λ e. past_twice n k cs h ∙ ap {B = List Comment} (λ b. cond b (past k cs) (c ∷ cs)) (sym (further c.0 n k e h)))
    (λ e. refl)

-- those of one member, and those behind it
member_comments_are : (n k : ℕ) (cs : List Comment) → n ≤ k
    → before n cs ++ (up_to n (from n cs) ++ (up_to k (past n cs) ++ past k cs)) ≡ cs
member_comments_are n k cs h =
    ap {B = List Comment} (λ ds. before n cs ++ (up_to n (from n cs) ++ (up_to k (past n cs) ++ ds))) (sym (past_twice n k cs h))
    ∙ ap {B = List Comment} (λ ds. before n cs ++ (up_to n (from n cs) ++ ds)) (up_and_past k (past n cs))
    ∙ ap {B = List Comment} (λ ds. before n cs ++ (up_to n (from n cs) ++ ds)) (sym (from_and_past n cs))
    ∙ ap {B = List Comment} (λ ds. before n cs ++ ds) (up_and_past n (from n cs))
    ∙ before_and_from n cs

pub all_comments : (at : Numbers) (cs : List Comment) (ms : List Member) → Each (λ (x : Member). first_line x ≤ last_line x) ms
    → flat_map comments_of (placed_members at cs ms) ++ last_comments cs ms ≡ cs
all_comments at cs [] h = refl
all_comments at cs (x ∷ ms) h =
    let p = place_member at cs x in
    let ds = past (last_line x) cs in
    let rest = flat_map comments_of (placed_members (behind_member at x) ds ms) in
    let last = last_comments ds ms in
    append_assoc (p.earlier ++ (p.own ++ p.inside)) rest last
    ∙ ap {B = List Comment} (λ (es : List Comment). (p.earlier ++ (p.own ++ p.inside)) ++ es) (all_comments (behind_member at x) ds ms h.1)
    ∙ append_assoc p.earlier (p.own ++ p.inside) ds
    ∙ ap {B = List Comment} (λ (es : List Comment). p.earlier ++ es) (append_assoc p.own p.inside ds)
    ∙ member_comments_are (first_line x) (last_line x) cs h.0
