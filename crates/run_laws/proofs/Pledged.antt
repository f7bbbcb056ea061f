-- Frames of covered procedures under the pledge of a call and under those of its lines.
use Rattle.std.proofs.Common.{◌≡◌, ◌⊎◌, inl, inr, ⊎_elim, refl, sym, ap, subst, ◌∙◌, ℕ, suc, ◌+◌, Bool, true, false, not, ◌&&◌, ◌||◌, nat_eq, true≢false, Option, Some, List, [], ◌∷◌, arith}
use Rattle.std.specs.List.{list_any}
use Rattle.std.specs.Map.{lookup}
use Rattle.std.specs.Prelude.{slice_get}
use Rattle.std.proofs.lemmas.Bool.{eqb-true, false_from_ne_true}
use Rattle.up_base.proofs.Tests.{both_true, either}
use Rattle.bound_tree.specs.Tree.{Line}
use Rattle.run_base.specs.Frames.{Kept, keeps_nothing, keeps_limit, keeps_value, keeps_address}
use Rattle.run_base.specs.Machines.{nth_line}
use Rattle.run_base.specs.Positions.{Position, Root, made, shared, field}
use Rattle.vb6_run.specs.Store.{Address, root, item, constant, Locked, SourceFrame, SourceGiven}
use Rattle.vb6_run.specs.Values.{Value}
use Rattle.net_run.specs.Lines.{NetFrame}
use Rattle.net_run.specs.Store as net
use Rattle.net_run.specs.Values as net_value
use Rattle.run_matches.specs.Addresses.{position_of, AllLocked, Bound, KeptMatch, LockOk, Same, both_addresses, both_arrays, both_choices, both_limits, both_nothing, both_objects, images, mirrored, same_item, same_root}
use Rattle.run_matches.specs.Frames.{FrameMatch, NextMatch, OwnsAll, SameVariable, frame_pledge, is_exact_head, is_kept_from, is_kept_in, is_own_line, is_own_of, is_own_place, is_place, lines_of, own_of, stands_in, is_mirrored}
use Rattle.run_matches.specs.Maps.{Below, Mark, World, mark}
use Rattle.run_matches.specs.Match.{MemoryMatch}
use Rattle.run_matches.specs.Pledges.{IsOld, NetGiven, Pledge, is_own, is_that_object, own_object}
use Rattle.run_matches.specs.Runs.{call_pledge}
use Rattle.run_matches.specs.Upgrades.{Upgrade, is_flagged}
use Rattle.agreeing_laws.specs.Promises.{Weaker}
use Rattle.agreeing_laws.proofs.Lasting.{later_weaker}
use Rattle.agreeing_laws.proofs.Made.{below_self, below_then, made_more}
use Rattle.run_laws.specs.Entered.{RunMatch}
use Rattle.line_laws.proofs.KeptPlaces.{place_kept_promised}

-- ---- from a pledge to one that promises no less

module _ (U : Upgrade) (K L : Pledge) (w : World) (h : MemoryMatch U w) (weaker : Weaker w K L) where
  same_with : (a : Address) (b : net.Address) → Same U K w a b → Same U L w a b
  same_with _ _ (same_root s d q sh m r) = same_root s d q sh m r
  same_with _ _ (same_item e s d q k j path kept m has part sh) = same_item e s d q k j path (weaker.keeps _ kept) m has part sh

  pub bound_with : (exact : Bool) (a : Address) (b : net.Address) → Bound U K w exact a b → Bound U L w exact a b
  bound_with _ _ _ (images exact a b s) = images exact a b (same_with a b s)
  bound_with _ _ _ (mirrored a b m) = mirrored a b (record { holds = λ z l. m.holds z (later_weaker U K L w z h weaker l) })

  kept_with : (exact : Bool) (k : Kept Value Address) (j : Kept net_value.Value net.Address) → KeptMatch U K w exact k j → KeptMatch U L w exact k j
  kept_with exact _ _ both_nothing = both_nothing
  kept_with exact _ _ (both_limits a b ty tz y s z d at x t) = both_limits a b ty tz y s z d (same_with a b at) x t
  kept_with exact _ _ (both_choices ty x y m) = both_choices ty x y m
  kept_with exact _ _ (both_objects ty x s y m i) = both_objects ty x s y m i
  kept_with exact _ _ (both_arrays f dims xs s y) = both_arrays f dims xs s y
  kept_with exact _ _ (both_addresses a b m) = both_addresses a b (bound_with exact a b m)

  lock_with : (q : Position) → LockOk U K w q → LockOk U L w q
  lock_with q x = record { element = x.element; array = x.array; is_matched = x.is_matched; stands = x.stands; kept = weaker.keeps _ x.kept }

  locks_with : (locked : Locked) → AllLocked U K w locked → AllLocked U L w locked
  locks_with [] x = tt
  locks_with (q ∷ rest) x = (lock_with q x.0, locks_with rest x.1)

  pub frame_with : (p : ℕ) (f : SourceFrame) (g : NetFrame) → Below L.base (mark w.src) → FrameMatch U K w p f g → FrameMatch U L w p f g
  frame_with p f g low m =
      record {
        line = m.line;
        handler = m.handler;
        active = m.active;
        resume = m.resume;
        me = m.me;
        me_made = m.me_made;
        own_object = m.own_object;
        names = m.names;
        vars = λ v a e flag. variable v a e flag;
        statics = m.statics;
        own = m.own;
        own_heads = m.own_heads;
        kept = λ h. kept_with (is_exact_head U (nth_line (lines_of U p) h)) (f.kept h) (g.kept h) (m.kept h);
        covered_heads = m.covered_heads;
        covered_withs = λ h l is covers with. place_kept_promised U K L w weaker l.bindings.exprs (f.kept h) (g.kept h) (m.covered_withs h l is covers with);
        has_locals = m.has_locals;
        has_passing = m.has_passing;
        locks = locks_with f.env m.locks;
        low = low;
      }
    where
      variable : (v : ℕ) (a : Address) → lookup (nat_eq v) f.vars ≡ Some a → is_flagged U v ≡ false → SameVariable U L w v a g
      variable v a e flag =
          let x : SameVariable U K w v a g = m.vars v a e flag in
          record {
            address = x.address;
            found = x.found;
            bound = bound_with (not (is_mirrored U v)) a x.address x.bound;
            plain = x.plain;
            ranked = x.ranked;
          }

-- ---- what the heads of blocks keep

is_that_place : (n : ℕ) (r : Root) → is_place n r ≡ true → r ≡ made n
is_that_place n (shared k) e = absurd (true≢false (sym e))
is_that_place n (made m) e = ap made (sym (eqb-true n m e))
is_that_place n (field o k) e = absurd (true≢false (sym e))

stands_at : (n : ℕ) (a : Address) → stands_in n a ≡ true → (q : Position) × (position_of a ≡ Some q) × (q.root ≡ made n)
stands_at n (root s q) e = (q, refl, is_that_place n q.root e)
stands_at n (item x q j path) e = (q, refl, is_that_place n q.root e)
stands_at n (constant x) e = absurd (true≢false (sym e))

-- a With on a variable of the procedure's own that keeps an address in a place
pub record KeptInPlace (U : Upgrade) (p : ℕ) (f : SourceFrame) (n h : ℕ) (ls : List Line) : Type 0 where
  pub index : ℕ
  pub line : Line
  pub is_line : slice_get ls index ≡ Some line
  pub own : is_own_line U p line ≡ true
  pub address : Address
  pub kept : f.kept (index + h) ≡ keeps_address address
  pub stands : stands_in n address ≡ true

kept_in : (n : ℕ) (k : Kept Value Address) → is_kept_in n k ≡ true → (a : Address) × (k ≡ keeps_address a) × (stands_in n a ≡ true)
kept_in n keeps_nothing e = absurd (true≢false (sym e))
kept_in n (keeps_limit a y s) e = absurd (true≢false (sym e))
kept_in n (keeps_value x) e = absurd (true≢false (sym e))
kept_in n (keeps_address a) e = (a, refl, e)

not_further : (h : ℕ) → 0 + h ≡ h
not_further h = omega arith

one_further : (i h : ℕ) → i + suc h ≡ suc i + h
one_further i h = omega arith

kept_here : (U : Upgrade) (p : ℕ) (f : SourceFrame) (n h : ℕ) (l : Line) (ls : List Line) → (is_own_line U p l && is_kept_in n (f.kept h)) ≡ true
    → KeptInPlace U p f n h (l ∷ ls)
kept_here U p f n h l ls x =
    let both = both_true (is_own_line U p l) (is_kept_in n (f.kept h)) x in
    let k = kept_in n (f.kept h) both.1 in
    record { index = 0; line = l; is_line = refl; own = both.0; address = k.0; kept = ap f.kept (not_further h) ∙ k.1; stands = k.2 }

kept_behind : (U : Upgrade) (p : ℕ) (f : SourceFrame) (n h : ℕ) (l : Line) (ls : List Line) → KeptInPlace U p f n (suc h) ls
    → KeptInPlace U p f n h (l ∷ ls)
kept_behind U p f n h l ls k = record {
  index = suc k.index;
  line = k.line;
  is_line = k.is_line;
  own = k.own;
  address = k.address;
  kept = ap f.kept (sym (one_further k.index h)) ∙ k.kept;
  stands = k.stands;
}

kept_found : (U : Upgrade) (p : ℕ) (f : SourceFrame) (n h : ℕ) (ls : List Line) → is_kept_from U p f n h ls ≡ true → KeptInPlace U p f n h ls
kept_found U p f n h [] e = absurd (true≢false (sym e))
kept_found U p f n h (l ∷ ls) e =
    ⊎_elim (λ x. kept_here U p f n h l ls x) (λ x. kept_behind U p f n h l ls (kept_found U p f n (suc h) ls x))
    (either (is_own_line U p l && is_kept_in n (f.kept h)) (is_kept_from U p f n (suc h) ls) e)

behind_one : (i : ℕ) → suc i ≡ i + 1
behind_one i = omega arith

-- it wasn't there before
kept_is_new : (U : Upgrade) (K : Pledge) (p : ℕ) (f : SourceFrame) (n : ℕ) → OwnsAll U K p f → is_kept_from U p f n 1 (lines_of U p) ≡ true
    → IsOld K (made n) → ⊥
kept_is_new U K p f n owns e old =
    let k : KeptInPlace U p f n 1 (lines_of U p) = kept_found U p f n 1 (lines_of U p) e in
    let at = stands_at n k.address k.stands in
    owns.heads k.index k.line k.address k.is_line k.own (ap f.kept (behind_one k.index) ∙ k.kept) at.0 at.1
    (subst (λ r. IsOld K r) (sym at.2) old)

-- ---- a call and its lines

either_left : (a b : Bool) → a ≡ true → (a || b) ≡ true
either_left true b h = refl
either_left false b h = absurd (true≢false (sym h))

module _ (U : Upgrade) (p : ℕ) where
  abbrev is_own_variable_in : SourceFrame → ℕ → Bool
  is_own_variable_in f n = list_any (λ (x : ℕ × Address). is_own_of U p x.0 && stands_in n x.1) f.vars

  -- ---- a line promises no less than the call in which it stands

  module _ (base : Mark) (me : Option ℕ) (xs : List SourceGiven) (ys : List NetGiven) (w : World) (f : SourceFrame) (same_object : f.me ≡ me)
      (low : Below base (mark w.src)) (places : (n : ℕ) → is_own_place U p f n ≡ true → IsOld (call_pledge U p base me xs ys) (made n) → ⊥) where
    -- what was there before the call is no more the line's own than the call's
    old_in_line : (q : Root) → IsOld (call_pledge U p base me xs ys) q → IsOld (frame_pledge U p w f) q
    old_in_line q old = record { is_made = made_more base (mark w.src) low q old.is_made; foreign = by q old }
      where
        by : (z : Root) → IsOld (call_pledge U p base me xs ys) z → is_own (frame_pledge U p w f).own z ≡ false
        by (shared k) o = refl
        by (made n) o = false_from_ne_true (is_own_place U p f n) (λ e. places n e o)
        by (field z k) o = ap (λ m. is_that_object (own_object U p m) z) same_object ∙ o.foreign

    pub call_is_weaker : Weaker w (call_pledge U p base me xs ys) (frame_pledge U p w f)
    call_is_weaker = record { keeps = λ ty x. x; steady = λ x. x; old = λ q m s o. old_in_line q o; takes = λ k lt x. absurd x }

  -- ---- the next line promises no less than the one before it

  -- the places of the next frame are those of variables, and those that a With has kept
  own_or_kept : (f f2 : SourceFrame) → f2.vars ≡ f.vars → (n : ℕ) → is_own_place U p f2 n ≡ true
      → (is_own_place U p f n ≡ true) ⊎ (is_kept_from U p f2 n 1 (lines_of U p) ≡ true)
  own_or_kept f f2 vars n e =
      ⊎_elim
      (λ own. inl (either_left (is_own_variable_in f n) (is_kept_from U p f n 1 (lines_of U p))
      (subst (λ vs. list_any (λ (x : ℕ × Address). is_own_of U p x.0 && stands_in n x.1) vs ≡ true) vars own)))
      (λ kept. inr kept) (either (is_own_variable_in f2 n) (is_kept_from U p f2 n 1 (lines_of U p)) e)

  module _ (w u : World) (f f2 : SourceFrame) (vars : f2.vars ≡ f.vars) (object : f2.me ≡ f.me) (owns : OwnsAll U (frame_pledge U p w f) p f2) where
    foreign_later : (q : Root) → IsOld (frame_pledge U p w f) q → is_own (own_of U p f2) q ≡ false
    foreign_later (shared k) o = refl
    foreign_later (made n) o =
        false_from_ne_true (is_own_place U p f2 n)
        (λ e. ⊎_elim (λ own. true≢false (sym own ∙ o.foreign)) (λ kept. kept_is_new U (frame_pledge U p w f) p f2 n owns kept o)
        (own_or_kept f f2 vars n e))
    foreign_later (field z k) o = ap (λ m. is_that_object (own_object U p m) z) object ∙ o.foreign

    pub line_is_weaker : Weaker u (frame_pledge U p w f) (frame_pledge U p u f2)
    line_is_weaker = record {
      keeps = λ ty x. x;
      steady = λ x. x;
      old = λ q m s o. record { is_made = m; foreign = foreign_later q o };
      takes = λ k lt x. absurd x;
    }

  -- the frame that a line leads to is one of the call
  pub frame_goes_on : (K : Pledge) (me : Option ℕ) (w : World) (f : SourceFrame) (g : NetFrame) → RunMatch U K p me w f g
      → (u : World) (f2 : SourceFrame) (g2 : NetFrame) → MemoryMatch U u → Below (mark w.src) (mark u.src) → f2.vars ≡ f.vars → NextMatch U (frame_pledge U p w f) p f.me u f2 g2
      → RunMatch U K p me u f2 g2
  frame_goes_on K me w f g r u f2 g2 h grows same m =
      let FK : Pledge = frame_pledge U p w f in
      record {
        same_object = m.same_object ∙ r.same_object;
        frames = frame_with U FK (frame_pledge U p u f2) u h (line_is_weaker w u f f2 same m.same_object m.owns) p f2 g2 (below_self (mark u.src)) m.frames;
        low = below_then K.base (mark w.src) (mark u.src) r.low grows;
        places = λ n e old.
            ⊎_elim (λ own. r.places n own old)
            (λ kept.
            kept_is_new U FK p f2 n m.owns kept
            (record {
              is_made = made_more K.base (mark w.src) r.low (made n) old.is_made;
              foreign = false_from_ne_true (is_own_place U p f n) (λ own. r.places n own old);
            }))
            (own_or_kept f f2 same n e);
        given = λ v a e is. r.given v a (subst (λ vs. lookup (nat_eq v) vs ≡ Some a) same e) is;
      }
