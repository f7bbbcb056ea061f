-- Values that are given by value and variables by reference: they are arguments of a call that promises enough.
use Rattle.std.proofs.Common.{◌≡◌, refl, sym, ap, ◌∙◌, ℕ, suc, ◌<◌, Bool, true, false, cond, ◌||◌, Option, Some, None, List, [], ◌∷◌, ◌++◌, arith}
use Rattle.std.specs.List.{AllPairs, Contains}
use Rattle.vb_tree.specs.BoundTree.{Ty}
use Rattle.vb_tree.specs.declared.value.Value6.{Value6}
use Rattle.bound_tree.specs.Tree.{Object, Passed}
use Rattle.net_meaning.specs.declared.value.ValueN.{ValueN}
use Rattle.net_meaning.specs.ValueMatch.{Matches, booleans}
use Rattle.run_base.specs.Positions.{Position, Root, shared, made, field}
use Rattle.vb6_run.specs.Store.{SourceFrame, SourceGiven}
use Rattle.vb6_run.specs.Values.{scalar}
use Rattle.net_run.specs.Lines.{NetFrame}
use Rattle.net_run.specs.Names as net_names
use Rattle.net_run.specs.Values as net_value
use Rattle.written_trees.specs.Names.{Scope}
use Rattle.net_run.specs.Shapes as shape
use Rattle.run_matches.specs.Addresses.{ArgsMatch, ArgsOk, no_args, value_args, address_args, source_bound}
use Rattle.run_matches.specs.Frames.{FrameMatch}
use Rattle.run_matches.specs.Likeness.{LikeV, like_scalar}
use Rattle.run_matches.specs.Maps.{IsMade, World, is_auto_root, mark}
use Rattle.run_matches.specs.Match.{MemoryMatch}
use Rattle.run_matches.specs.Pledges.{IsLasting, Later, NetGiven, Pledge, arrays_in, is_own, is_self_made, is_inward, is_that_object, taken_by, still}
use Rattle.run_matches.specs.Runs.{IsObject, call_pledge, own_in_call}
use Rattle.run_matches.specs.Upgrades.{Upgrade}
use Rattle.run_statements.specs.Frames.{CanCall}
use Rattle.agreeing_laws.specs.Promises.{Weaker}
use Rattle.agreeing_laws.proofs.Made.{below_self, below_then, more}
use Rattle.agreeing_laws.proofs.Moves.{address_promised, locks_later, locks_promised}
use Rattle.agreeing_laws.proofs.OwnObjects.{own_object_later}
use Rattle.agreeing_laws.proofs.Scalars.{object_later}
use Rattle.agreeing_laws.proofs.Still.{still_more}
use Rattle.run_statements.specs.Arguments.{ArgumentsMatch, next_address, next_index, next_value, no_arguments}
use Rattle.expression_laws.specs.Calls.{Stands}
use Rattle.expression_laws.proofs.IndexValues.{index_mirrors, index_plain, index_there}

-- ---- the frames of a caller

made_object : (w : World) (me o : Option ℕ) → me ≡ o → ((k : ℕ) → me ≡ Some k → k < w.src.next_object) → IsObject w o
made_object w me None e h = tt
made_object w me (Some k) e h = h k e

object_at : (w : World) (me : Option ℕ) → ((k : ℕ) → me ≡ Some k → k < w.src.next_object) → IsObject w me
object_at w me h = made_object w me me refl h

object_stays : (U : Upgrade) (K : Pledge) (w0 w1 : World) (me : Option ℕ) → Later U K w0 w1 → IsObject w0 me → IsObject w1 me
object_stays U K w0 w1 None l h = tt
object_stays U K w0 w1 (Some k) l h = more k w0.src.next_object w1.src.next_object l.grows.objects h

pub stands_now : (U : Upgrade) (K : Pledge) (w : World) (p : ℕ) (f : SourceFrame) (g : NetFrame) → FrameMatch U K w p f g → Stands U K w p f g
stands_now U K w p f g h = record { me = h.me; object = object_at w f.me h.me_made; own_object = h.own_object; locks = h.locks; low = h.low }

pub stands_later : (U : Upgrade) (K : Pledge) (w0 w1 : World) (p : ℕ) (f : SourceFrame) (g : NetFrame) → Later U K w0 w1 → Stands U K w0 p f g
    → Stands U K w1 p f g
stands_later U K w0 w1 p f g l h = record {
  me = h.me ∙ sym (object_later w0 w1 f.me l.extends h.object);
  object = object_stays U K w0 w1 f.me l h.object;
  own_object = own_object_later U K w0 w1 p f.me l h.own_object;
  locks = locks_later U K w0 w1 f.env l h.locks;
  low = below_then K.base (mark w0.src) (mark w1.src) h.low l.grows;
}

pub stands_still : (U : Upgrade) (K : Pledge) (w : World) → MemoryMatch U w → (p : ℕ) (f : SourceFrame) (g : NetFrame) → Stands U K w p f g
    → Stands U (still K w) w p f g
stands_still U K w start p f g h = record {
  me = h.me;
  object = h.object;
  own_object = h.own_object;
  locks = locks_promised U K (still K w) w w f.env (still_more K w) h.locks;
  low = below_self (mark w.src);
}

-- ---- no array is in a scalar

no_arrays_in : (same : ℕ → ℕ → Bool) (ty : Ty) (x : Value6) (y : ValueN) → Matches same ty x y → arrays_in (net_value.single y) ≡ []
no_arrays_in same _ _ _ (booleans b) = refl
no_arrays_in same _ _ _ _ = refl

pub no_arrays : (U : Upgrade) (w : World) (ty : Ty) (z : Value6) (y : net_value.Value) → LikeV U w (scalar ty z) y → arrays_in y ≡ []
no_arrays U w _ _ _ (like_scalar ty z y m) = no_arrays_in _ ty z y m

none_in : (k : ℕ) (ks : List ℕ) → ks ≡ [] → Contains ks k → ⊥
none_in k [] e c = let lt = c.1 in omega arith
none_in k (j ∷ ks) e c = absurd (cc e)

no_pairs : (ks : List ℕ) → ks ≡ [] → AllPairs (λ j k. j ≡ k → ⊥) ks
no_pairs [] e = λ i j d lt more. absurd (let l = more in omega arith)
no_pairs (k ∷ ks) e = absurd (cc e)

-- no array occurs in what is given
pub loose_in_none : {A : Type 0} (ks : List ℕ) (k : ℕ) → ks ≡ [] → Contains ks k → A
loose_in_none ks k e c = absurd (none_in k ks e c)

pub once_in_none : (ks : List ℕ) → ks ≡ [] → AllPairs (λ j k. j ≡ k → ⊥) ks
once_in_none ks e = no_pairs ks e

-- ---- arguments

taken_none : (U : Upgrade) (K : Pledge) (q i : ℕ) (w : World) (xs : List SourceGiven) (ys : List NetGiven) → ArgumentsMatch U K q i w xs ys → taken_by xs ys ≡ []
taken_none U K q _ _ _ _ (no_arguments i w) = refl
taken_none U K q _ _ _ _ (next_value i w x y xs ys h givable takes none rest) =
    ap (λ ks. ks ++ taken_by xs ys) none ∙ taken_none U K q (suc i) w xs ys rest
taken_none U K q _ _ _ _ (next_address i w a b xs ys same target whole plain ranked rest) = taken_none U K q (suc i) w xs ys rest
taken_none U K q _ _ _ _ (next_index i w a y xs ys x rest) = taken_none U K q (suc i) w xs ys rest

-- what lasts while an inward procedure runs
abbrev pub AreLasting : Upgrade → Pledge → (procedure : ℕ) → World → Type 0
AreLasting U L q w =
    is_inward U q ≡ true → (p : Position) → IsMade (mark w.src) p.root → is_auto_root U w.map p.root ≡ false → IsLasting U L w p

arguments_match : (U : Upgrade) (K L : Pledge) (q i : ℕ) (w : World) (xs : List SourceGiven) (ys : List NetGiven) → Weaker w K L → AreLasting U L q w
    → ArgumentsMatch U K q i w xs ys → ArgsMatch U L w q i xs ys
arguments_match U K L q _ _ _ _ weaker last (no_arguments i w) = no_args i
arguments_match U K L q _ _ _ _ weaker last (next_value i w x y xs ys h givable takes none rest) =
    value_args i x y xs ys h givable takes (arguments_match U K L q (suc i) w xs ys weaker last rest)
arguments_match U K L q _ _ _ _ weaker last (next_address i w a b xs ys same target whole plain ranked rest) =
    address_args i a b xs ys (address_promised U K L w w a b weaker same) target whole plain ranked (arguments_match U K L q (suc i) w xs ys weaker last rest)
arguments_match U K L q _ _ _ _ weaker last (next_index i w a y xs ys x rest) =
    source_bound i a shape.shapeless y xs ys x.quiet x.takes
    (index_mirrors U L q i w a y x (last x.inward x.position x.is_made x.plain)) x.variable (index_there U q i w a y x) (index_plain U q i w a y x)
    (arguments_match U K L q (suc i) w xs ys weaker last rest)

pub arguments_ok : (U : Upgrade) (K L : Pledge) (w : World) (q : ℕ) (xs : List SourceGiven) (ys : List NetGiven) → Weaker w K L → AreLasting U L q w
    → ArgumentsMatch U K q 0 w xs ys → ArgsOk U L w q xs ys
arguments_ok U K L w q xs ys weaker last h = record {
  match = arguments_match U K L q 0 w xs ys weaker last h;
  loose = λ k c. loose_in_none (taken_by xs ys) k (taken_none U K q 0 w xs ys h) c;
  once = once_in_none (taken_by xs ys) (taken_none U K q 0 w xs ys h);
}

-- ---- what a call promises

either_first : (a b : Bool) → a ≡ true → (a || b) ≡ true
either_first true b h = refl
either_first false b h = absurd (cc h)

inward_foreign : (U : Upgrade) (q : ℕ) (me : Option ℕ) (r : Root) → is_inward U q ≡ true → is_own (own_in_call U q me) r ≡ false
inward_foreign U q me (shared k) h = refl
inward_foreign U q me (made n) h = refl
inward_foreign U q me (field o k) h = ap (λ b. is_that_object (cond b None (cond (is_self_made U q) me None)) o) h

pub callee_lasts : (U : Upgrade) (q : ℕ) (w : World) (me : Option ℕ) (xs : List SourceGiven) (ys : List NetGiven)
    → AreLasting U (call_pledge U q (mark w.src) me xs ys) q w
callee_lasts U q w me xs ys inward p m plain = record {
  steady = either_first (is_inward U q) (is_self_made U q) inward;
  old = record { is_made = m; foreign = inward_foreign U q me p.root inward };
  plain = plain;
}

pub callee_is_weaker : (U : Upgrade) (K : Pledge) (S : net_names.Scope) (T : Scope) (p q : ℕ) (qualified : Bool) (of : Object) (args : Passed) (w : World)
    (me : Option ℕ) (xs : List SourceGiven) (ys : List NetGiven) → CanCall U K S T p q qualified of args → ArgumentsMatch U K q 0 w xs ys → Weaker w K (call_pledge U q (mark w.src) me xs ys)
callee_is_weaker U K S T p q qualified of args w me xs ys c h = record {
  keeps = c.keeps;
  steady = λ s. either_first (is_inward U q) (is_self_made U q) (c.inward s);
  old = λ r m s o. record { is_made = m; foreign = inward_foreign U q me r (c.inward s) };
  takes = λ k lt x. loose_in_none (taken_by xs ys) k (taken_none U K q 0 w xs ys h) x;
}
