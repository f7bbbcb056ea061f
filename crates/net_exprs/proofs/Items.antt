-- Expressions in parentheses that are read one by one.
use Rattle.std.proofs.Common.{◌≡◌, ℕ, zero, suc, ◌+◌, ◌≤◌, ◌<◌, Bool, true, false, ◌&&◌, ◌==◌, if◌then◌else◌, List, [], ◌∷◌, ◌++◌, length, codes, min, max, refl, ap, ◌∙◌, arith, Option, Some, None}
use Rattle.net_tree.specs.declared.expression.NetExpr.{NetExpr}
use Rattle.net_tree.specs.Tree.{Exp, Exps, next_exp, no_exps}
use Rattle.net_tree.specs.View.{exp_of, exps_of}
use Rattle.net_exprs.specs.Answers.{Misfits}
use Rattle.net_exprs.specs.Readers.{after, behind, past}
use Rattle.net_exprs.specs.Expressions.{items_behind, items_from}
use Rattle.net_tree.specs.Depth.{depth_exp, depth_exps}
use Rattle.net_exprs.specs.Fitting.{fit_in, fits_exp, fits_exps, fits_in}
use Rattle.net_exprs.proofs.Rooms.{misfit_up}
use Rattle.net_exprs.proofs.Words.{both_true, by_test}

abbrev Found : Type 0
Found = Option (Exps × List ℕ)

abbrev Read : Type 0
Read = List ℕ → Option (Exp × List ℕ)

abbrev pub append_exps : Exps → Exps → Exps
append_exps no_exps fs = fs
append_exps (next_exp e es) fs = next_exp e (append_exps es fs)

append_again : (es : Exps) (e : Exp) (fs : Exps) → append_exps es (next_exp e fs) ≡ append_exps (append_exps es (next_exp e no_exps)) fs
append_again no_exps e fs = refl
append_again (next_exp d es) e fs = ap (next_exp d) (append_again es e fs)

pub pushed : (xs : List NetExpr) (x : NetExpr) → exps_of (xs ++ x ∷ []) ≡ append_exps (exps_of xs) (next_exp (exp_of x) no_exps)
pushed [] x = refl
pushed (y ∷ xs) x = ap (next_exp (exp_of y)) (pushed xs x)

abbrev with_items : Exps → Found → Found
with_items before o = behind o (λ es rest. Some (append_exps before es, rest))

-- items were read, and the list goes on at what is left
pub record ItemsLeft (read : Read) (text : List ℕ) (before : Exps) (rest : List ℕ) : Type 0 where
  pub most : ℕ
  pub long : length rest ≤ most
  pub is : items_from read (length text) text ≡ with_items before (items_from read most rest)

-- ---- what follows an item

ended : (List ℕ → Found) → Exp → (closing comma : Option (List ℕ)) → Found
ended go e (Some s) o = Some (next_exp e no_exps, s)
ended go e None o = past o (λ s. behind (go s) (λ es rest. Some (next_exp e es, rest)))

item_ended : (go : List ℕ → Found) (e : Exp) (b : List ℕ) → items_behind go e b ≡ ended go e (after (codes ")") b) (after (codes ", ") b)
unfolding ended
item_ended go e [] = refl
item_ended go e (c ∷ s) =
    by_test (c == 41)
    (λ t. (elim t [ true ↦ Some (next_exp e no_exps, s) | false ↦ past (after (codes ", ") (c ∷ s)) (λ s. behind (go s) (λ es rest. Some (next_exp e es, rest))) ])
    ≡ ended go e (if t then Some s else None) (after (codes ", ") (c ∷ s)))
    (λ t. refl) (λ t. refl)

from_item : (read : Read) (m : ℕ) (rest : List ℕ) (e : Exp) (b : List ℕ) (closing comma : Option (List ℕ)) → read rest ≡ Some (e, b) → after (codes ")") b ≡ closing → after (codes ", ") b ≡ comma
    → items_from read (suc m) rest ≡ ended (items_from read m) e closing comma
from_item read m rest e b closing comma h k l =
    ap (λ o. behind o (items_behind (items_from read m))) h ∙ item_ended (items_from read m) e b
    ∙ ap (λ o. ended (items_from read m) e o (after (codes ", ") b)) k ∙ ap (ended (items_from read m) e closing) l

pub items_go_on : (read : Read) (text : List ℕ) (before : Exps) (rest : List ℕ) (e : Exp) (b more : List ℕ) → ItemsLeft read text before rest → read rest ≡ Some (e, b) → length b < length rest
    → after (codes ")") b ≡ None → after (codes ", ") b ≡ Some more → length more + 2 ≡ length b → ItemsLeft read text (append_exps before (next_exp e no_exps)) more
unfolding ended
items_go_on read text before rest e b more left h less closing comma fewer = go left.most left.long left.is
  where
    again : (o : Found) → with_items before (behind o (λ es rest. Some (next_exp e es, rest))) ≡ with_items (append_exps before (next_exp e no_exps)) o
    again None = refl
    again (Some part) = ap (λ es. Some (es, part.1)) (append_again before e part.0)

    go : (m : ℕ) → length rest ≤ m → items_from read (length text) text ≡ with_items before (items_from read m rest) → ItemsLeft read text (append_exps before (next_exp e no_exps)) more
    go zero long is = absurd (omega (arith, less, long))
    go (suc n) long is = record {
      most = n;
      long = omega (arith, less, long, fewer);
      is = is ∙ ap (with_items before) (from_item read n rest e b None (Some more) h closing comma) ∙ again (items_from read n more);
    }

pub items_stop : (read : Read) (text : List ℕ) (before : Exps) (rest : List ℕ) (e : Exp) (b end : List ℕ) → ItemsLeft read text before rest → read rest ≡ Some (e, b) → length b < length rest
    → after (codes ")") b ≡ Some end → items_from read (length text) text ≡ Some (append_exps before (next_exp e no_exps), end)
unfolding ended
items_stop read text before rest e b end left h less closing = go left.most left.long left.is
  where
    go : (m : ℕ) → length rest ≤ m → items_from read (length text) text ≡ with_items before (items_from read m rest) → items_from read (length text) text ≡ Some (append_exps before (next_exp e no_exps), end)
    go zero long is = absurd (omega (arith, less, long))
    go (suc n) long is = is ∙ ap (with_items before) (from_item read n rest e b (Some end) (after (codes ", ") b) h closing refl)

-- ---- items that fit, and items that don't

pub items_fit : (es : Exps) (e : Exp) → fits_exps es ≡ true → fits_exp e ≡ true → fits_exps (append_exps es (next_exp e no_exps)) ≡ true
items_fit no_exps e h k = rw k refl
items_fit (next_exp d es) e h k = let parts = both_true (fits_exp d) (fits_exps es) h in rw (parts.0, items_fit es e parts.1 k) refl

append_unfit : (es : Exps) (e : Exp) (fs : Exps) → fits_exp e ≡ false → fits_exps (append_exps es (next_exp e fs)) ≡ false
append_unfit no_exps e fs h = rw h refl
append_unfit (next_exp d es) e fs h = go (fits_exp d) (append_unfit es e fs h)
  where
    go : (b : Bool) → fits_exps (append_exps es (next_exp e fs)) ≡ false → b && fits_exps (append_exps es (next_exp e fs)) ≡ false
    go true k = k
    go false k = refl

append_deeper : (es : Exps) (e : Exp) (fs : Exps) → depth_exp e ≤ depth_exps (append_exps es (next_exp e fs))
append_deeper no_exps e fs = omega arith
append_deeper (next_exp d es) e fs = omega (arith, append_deeper es e fs)

append_misfits : (room : ℕ) (es : Exps) (e : Exp) (fs : Exps) → fits_in room e ≡ false → fit_in room (append_exps es (next_exp e fs)) ≡ false
append_misfits room es e fs h =
    misfit_up (fits_exp e) (fits_exps (append_exps es (next_exp e fs))) (depth_exp e) room (depth_exps (append_exps es (next_exp e fs))) room (append_unfit es e fs) (λ l. omega (arith, l, append_deeper es e fs)) h

append_depth : (es : Exps) (e : Exp) → depth_exps (append_exps es (next_exp e no_exps)) ≡ max (depth_exps es) (depth_exp e)
append_depth no_exps e = omega arith
append_depth (next_exp d es) e = omega (arith, append_depth es e)

-- one more leaves the less of what both leave
pub items_leave : (room : ℕ) (es : Exps) (e : Exp) (left behind_it : ℕ) → left + depth_exps es ≡ room → behind_it + depth_exp e ≡ room
    → min left behind_it + depth_exps (append_exps es (next_exp e no_exps)) ≡ room
items_leave room es e left behind_it h k = omega (arith, h, k, append_depth es e)

pub items_misfit : (room : ℕ) (read : Read) (text : List ℕ) (before : Exps) (rest : List ℕ) → ItemsLeft read text before rest → Misfits (fits_in room) (read rest)
    → Misfits (fit_in room) (items_from read (length text) text)
unfolding ended
items_misfit room read text before rest left h = rw left.is (from left.most)
  where
    more : (e : Exp) → fits_in room e ≡ false → (o : Found) → Misfits (fit_in room) (with_items before (behind o (λ es rest. Some (next_exp e es, rest))))
    more e k None = tt
    more e k (Some part) = append_misfits room before e part.0 k

    by_end : (go : List ℕ → Found) (e : Exp) → fits_in room e ≡ false → (closing comma : Option (List ℕ)) → Misfits (fit_in room) (with_items before (ended go e closing comma))
    by_end go e k (Some s) comma = append_misfits room before e no_exps k
    by_end go e k None None = tt
    by_end go e k None (Some s) = more e k (go s)

    item : (go : List ℕ → Found) (o : Option (Exp × List ℕ)) → Misfits (fits_in room) o → Misfits (fit_in room) (with_items before (behind o (items_behind go)))
    item go None k = tt
    item go (Some part) k = rw (item_ended go part.0 part.1) (by_end go part.0 k (after (codes ")") part.1) (after (codes ", ") part.1))

    from : (m : ℕ) → Misfits (fit_in room) (with_items before (items_from read m rest))
    from zero = tt
    from (suc n) = item (items_from read n) (read rest) h
