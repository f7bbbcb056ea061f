-- The memories of the second program match under the map that moves objects, so that its Main may be called.
use Rattle.std.proofs.Common.{◌≡◌, inl, inr, refl, sym, subst, ℕ, zero, suc, ◌+◌, ◌<◌, ◌^◌, pos, Bool, true, cond, List, [], ◌∷◌, length, Some, None, arith}
use Rattle.std.proofs.lemmas.Bool.{true≢false}
use Rattle.std.specs.Prelude.{nat_eq, slice_get}
use Rattle.vb_tree.specs.BoundTree.{class, long}
use Rattle.vb_tree.specs.declared.value.Value6.TheVariants as v
use Rattle.bound_tree.specs.RuleSets.{has, none, both}
use Rattle.bound_tree.specs.Tree.{Variable}
use Rattle.net_meaning.specs.declared.value.ValueN.TheVariants as n
use Rattle.net_meaning.specs.ValueMatch.{longs, no_object_of, objects_of}
use Rattle.run_base.specs.Positions.{Root, shared, made, field}
use Rattle.vb6_run.specs.Programs.{is_module_variable}
use Rattle.vb6_run.specs.Store.{blank}
use Rattle.net_run.specs.Store as net
use Rattle.run_matches.specs.Maps.{IsMatched, IsUnmade, mark, moved_at, net_mark}
use Rattle.run_matches.specs.Match.{HeldAs, Holds, SameClass, StoreMatch, holds_blank, holds_parts, holds_single, is_class_variable}
use Rattle.run_matches.specs.Runs.{Start}
use Rattle.name_laws.proofs.Lists.{some_same}
use Rattle.run_laws.proofs.Covered.{not_none}
use Rattle.inhabited_laws.specs.Objects.{object_sample, objects}
use Rattle.inhabited_laws.specs.ObjectMemories.{cell_at, counter_at, held_at, object_map, object_source, object_target, object_world}
use Rattle.inhabited_laws.proofs.Stores.{at, behind, below_zero, into_at, moved_once, no_arguments, no_class, not_laid}

-- held, best and the variables of the object match, and elsewhere nothing stands
holds_at : (r : Root) (path : List ℕ) → IsMatched object_sample object_world (at r path)
    → Holds object_sample object_world (held_at r path) (object_target.cell (moved_at object_sample object_map (at r path)))
unfolding has none both
holds_at (shared []) path h = holds_blank
holds_at (shared (zero ∷ [])) path h = holds_blank
holds_at (shared (suc zero ∷ [])) path h = holds_blank
holds_at (shared (suc (suc zero) ∷ [])) [] h = holds_single (class 0) (v.Object 0) (n.Object 5) (objects_of 0 0 5 refl)
holds_at (shared (suc (suc zero) ∷ [])) (i ∷ path) h = holds_blank
holds_at (shared (suc (suc (suc zero)) ∷ [])) [] h = holds_parts
holds_at (shared (suc (suc (suc zero)) ∷ [])) (zero ∷ []) h = holds_single long (v.Long (pos 1)) (n.Integer (pos 1)) (longs (pos 1) refl)
holds_at (shared (suc (suc (suc zero)) ∷ [])) (zero ∷ i ∷ path) h = holds_blank
holds_at (shared (suc (suc (suc zero)) ∷ [])) (suc zero ∷ []) h = holds_single long (v.Long (pos 2)) (n.Integer (pos 2)) (longs (pos 2) refl)
holds_at (shared (suc (suc (suc zero)) ∷ [])) (suc zero ∷ i ∷ path) h = holds_blank
holds_at (shared (suc (suc (suc zero)) ∷ [])) (suc (suc i) ∷ path) h = holds_blank
holds_at (shared (suc (suc (suc (suc zero))) ∷ [])) path h = holds_blank
holds_at (shared (suc (suc (suc (suc (suc zero)))) ∷ [])) path h = holds_blank
holds_at (shared (suc (suc (suc (suc (suc (suc zero))))) ∷ [])) path h = holds_blank
holds_at (shared (suc (suc (suc (suc (suc (suc (suc zero)))))) ∷ [])) path h = holds_blank
holds_at (shared (suc (suc (suc (suc (suc (suc (suc (suc zero))))))) ∷ [])) path h = holds_blank
holds_at (shared (suc (suc (suc (suc (suc (suc (suc (suc (suc zero)))))))) ∷ [])) path h = holds_blank
holds_at (shared (suc (suc (suc (suc (suc (suc (suc (suc (suc (suc zero))))))))) ∷ [])) path h = holds_blank
holds_at (shared (suc (suc (suc (suc (suc (suc (suc (suc (suc (suc (suc zero)))))))))) ∷ [])) path h = holds_blank
holds_at (shared (suc (suc (suc (suc (suc (suc (suc (suc (suc (suc (suc (suc zero))))))))))) ∷ [])) path h = holds_blank
holds_at (shared (suc (suc (suc (suc (suc (suc (suc (suc (suc (suc (suc (suc (suc zero)))))))))))) ∷ [])) path h = holds_blank
holds_at (shared (suc (suc (suc (suc (suc (suc (suc (suc (suc (suc (suc (suc (suc (suc zero))))))))))))) ∷ [])) path h = holds_blank
holds_at (shared (suc (suc (suc (suc (suc (suc (suc (suc (suc (suc (suc (suc (suc (suc (suc zero)))))))))))))) ∷ [])) path h = holds_blank
holds_at (shared (suc (suc (suc (suc (suc (suc (suc (suc (suc (suc (suc (suc (suc (suc (suc (suc zero))))))))))))))) ∷ [])) path h = holds_blank
holds_at (shared (suc (suc (suc (suc (suc (suc (suc (suc (suc (suc (suc (suc (suc (suc (suc (suc (suc zero)))))))))))))))) ∷ [])) path h = holds_blank
holds_at (shared (suc (suc (suc (suc (suc (suc (suc (suc (suc (suc (suc (suc (suc (suc (suc (suc (suc (suc x))))))))))))))))) ∷ [])) path h = holds_blank
holds_at (shared (x ∷ y ∷ more)) path h = absurd (true≢false (sym h.counterpart))
holds_at (made p) path h = let lt : p < 0 = h.is_made in absurd (omega arith)
holds_at (field zero []) path h = holds_blank
holds_at (field zero (zero ∷ [])) path h = holds_blank
holds_at (field zero (suc zero ∷ [])) path h = holds_blank
holds_at (field zero (suc (suc zero) ∷ [])) path h = holds_blank
holds_at (field zero (suc (suc (suc zero)) ∷ [])) path h = holds_blank
holds_at (field zero (suc (suc (suc (suc zero))) ∷ [])) path h = holds_blank
holds_at (field zero (suc (suc (suc (suc (suc zero)))) ∷ [])) path h = holds_blank
holds_at (field zero (suc (suc (suc (suc (suc (suc zero))))) ∷ [])) path h = holds_blank
holds_at (field zero (suc (suc (suc (suc (suc (suc (suc zero)))))) ∷ [])) path h = holds_blank
holds_at (field zero (suc (suc (suc (suc (suc (suc (suc (suc zero))))))) ∷ [])) path h = holds_blank
holds_at (field zero (suc (suc (suc (suc (suc (suc (suc (suc (suc zero)))))))) ∷ [])) [] h = holds_single long (v.Long (pos 7)) (n.Integer (pos 7)) (longs (pos 7) refl)
holds_at (field zero (suc (suc (suc (suc (suc (suc (suc (suc (suc zero)))))))) ∷ [])) (i ∷ path) h = holds_blank
holds_at (field zero (suc (suc (suc (suc (suc (suc (suc (suc (suc (suc zero))))))))) ∷ [])) [] h = holds_single (class 0) v.Nothing n.Nothing (no_object_of 0)
holds_at (field zero (suc (suc (suc (suc (suc (suc (suc (suc (suc (suc zero))))))))) ∷ [])) (i ∷ path) h = holds_blank
holds_at (field zero (suc (suc (suc (suc (suc (suc (suc (suc (suc (suc (suc zero)))))))))) ∷ [])) path h = holds_blank
holds_at (field zero (suc (suc (suc (suc (suc (suc (suc (suc (suc (suc (suc (suc zero))))))))))) ∷ [])) path h = holds_blank
holds_at (field zero (suc (suc (suc (suc (suc (suc (suc (suc (suc (suc (suc (suc (suc zero)))))))))))) ∷ [])) path h = holds_blank
holds_at (field zero (suc (suc (suc (suc (suc (suc (suc (suc (suc (suc (suc (suc (suc (suc zero))))))))))))) ∷ [])) path h = holds_blank
holds_at (field zero (suc (suc (suc (suc (suc (suc (suc (suc (suc (suc (suc (suc (suc (suc (suc zero)))))))))))))) ∷ [])) path h = holds_blank
holds_at (field zero (suc (suc (suc (suc (suc (suc (suc (suc (suc (suc (suc (suc (suc (suc (suc (suc zero))))))))))))))) ∷ [])) path h = holds_blank
holds_at (field zero (suc (suc (suc (suc (suc (suc (suc (suc (suc (suc (suc (suc (suc (suc (suc (suc (suc zero)))))))))))))))) ∷ [])) path h = holds_blank
holds_at (field zero (suc (suc (suc (suc (suc (suc (suc (suc (suc (suc (suc (suc (suc (suc (suc (suc (suc (suc x))))))))))))))))) ∷ [])) path h = holds_blank
holds_at (field zero (x ∷ y ∷ more)) path h = absurd (true≢false (sym h.counterpart))
holds_at (field (suc o) k) path h = let lt : suc o < 1 = h.is_made in absurd (omega arith)

-- ---- there are no arrays

no_array : (r : Root) (path : List ℕ) (k : ℕ) → cell_at r path ≡ net.holds (n.Array k) → ⊥
no_array (field o key) path k e = none_in (nat_eq o 5) key path k e
  where
    none_in : (b : Bool) (key path : List ℕ) (k : ℕ) → cond b (counter_at key path) net.blank ≡ net.holds (n.Array k) → ⊥
    none_in true (suc zero ∷ suc zero ∷ []) [] k e = cc
    none_in true (suc zero ∷ suc (suc zero) ∷ []) [] k e = cc
    none_in b key path k e = cc
no_array (shared (zero ∷ suc zero ∷ [])) [] k e = cc
no_array (shared (zero ∷ suc (suc zero) ∷ [])) [] k e = cc
no_array (shared (zero ∷ suc (suc zero) ∷ [])) (zero ∷ []) k e = cc
no_array (shared (zero ∷ suc (suc zero) ∷ [])) (suc zero ∷ []) k e = cc
no_array r path k e = cc

-- ---- nothing stands where nothing was made

unmade_at : (r : Root) (path : List ℕ) → IsUnmade (mark object_source) r → held_at r path ≡ blank
unmade_at (shared k) path u = absurd u
unmade_at (made p) path u = refl
unmade_at (field zero k) path u = absurd (omega (arith, u))
unmade_at (field (suc o) k) path u = refl

net_unmade_at : (r : Root) (path : List ℕ) → IsUnmade (net_mark object_target) r → cell_at r path ≡ net.blank
net_unmade_at (shared k) path u = absurd u
net_unmade_at (made p) path u = refl
net_unmade_at (field o k) path u = behind 5 o (nat_eq o 5) (counter_at k path) refl u

-- ---- objects

same_class : (o : ℕ) → o < 1 → SameClass object_sample (object_source.class_of o) (object_target.class_of (o + 5))
same_class zero lt = (refl, refl)
same_class (suc o) lt = absurd (omega arith)

short : (k : ℕ) → length (object_target.arrays k).elements < 2 ^ 31
short k = omega arith

-- ---- variables hold what their declarations say

kinds_at : (x : ℕ) (y : Variable) → slice_get objects.declarations.vars x ≡ Some y
    → HeldAs objects.declarations x (is_module_variable objects.declarations y.owner) (shared (x ∷ [])) (λ q. held_at q.root q.path)
kinds_at zero y e = inl (λ path. refl, not_laid (is_module_variable objects.declarations) _ y e refl)
kinds_at (suc zero) y e = inl (λ path. refl, not_laid (is_module_variable objects.declarations) _ y e refl)
kinds_at (suc (suc zero)) y e = inr (v.Object 0, refl)
kinds_at (suc (suc (suc zero))) y e = inr (refl, ((v.Long (pos 1), refl), ((v.Long (pos 2), refl), tt)))
kinds_at (suc (suc (suc (suc zero)))) y e = inl (λ path. refl, not_laid (is_module_variable objects.declarations) _ y e refl)
kinds_at (suc (suc (suc (suc (suc zero))))) y e = inl (λ path. refl, not_laid (is_module_variable objects.declarations) _ y e refl)
kinds_at (suc (suc (suc (suc (suc (suc zero)))))) y e = inl (λ path. refl, not_laid (is_module_variable objects.declarations) _ y e refl)
kinds_at (suc (suc (suc (suc (suc (suc (suc zero))))))) y e = inl (λ path. refl, not_laid (is_module_variable objects.declarations) _ y e refl)
kinds_at (suc (suc (suc (suc (suc (suc (suc (suc zero)))))))) y e = inl (λ path. refl, not_laid (is_module_variable objects.declarations) _ y e refl)
kinds_at (suc (suc (suc (suc (suc (suc (suc (suc (suc zero))))))))) y e = inl (λ path. refl, not_laid (is_module_variable objects.declarations) _ y e refl)
kinds_at (suc (suc (suc (suc (suc (suc (suc (suc (suc (suc zero)))))))))) y e = inl (λ path. refl, not_laid (is_module_variable objects.declarations) _ y e refl)
kinds_at (suc (suc (suc (suc (suc (suc (suc (suc (suc (suc (suc zero))))))))))) y e = inl (λ path. refl, not_laid (is_module_variable objects.declarations) _ y e refl)
kinds_at (suc (suc (suc (suc (suc (suc (suc (suc (suc (suc (suc (suc zero)))))))))))) y e = inl (λ path. refl, not_laid (is_module_variable objects.declarations) _ y e refl)
kinds_at (suc (suc (suc (suc (suc (suc (suc (suc (suc (suc (suc (suc (suc zero))))))))))))) y e = inl (λ path. refl, not_laid (is_module_variable objects.declarations) _ y e refl)
kinds_at (suc (suc (suc (suc (suc (suc (suc (suc (suc (suc (suc (suc (suc (suc zero)))))))))))))) y e = inl (λ path. refl, not_laid (is_module_variable objects.declarations) _ y e refl)
kinds_at (suc (suc (suc (suc (suc (suc (suc (suc (suc (suc (suc (suc (suc (suc (suc zero))))))))))))))) y e = inl (λ path. refl, not_laid (is_module_variable objects.declarations) _ y e refl)
kinds_at (suc (suc (suc (suc (suc (suc (suc (suc (suc (suc (suc (suc (suc (suc (suc (suc zero)))))))))))))))) y e = inl (λ path. refl, not_laid (is_module_variable objects.declarations) _ y e refl)
kinds_at (suc (suc (suc (suc (suc (suc (suc (suc (suc (suc (suc (suc (suc (suc (suc (suc (suc zero))))))))))))))))) y e = inl (λ path. refl, not_laid (is_module_variable objects.declarations) _ y e refl)
kinds_at (suc (suc (suc (suc (suc (suc (suc (suc (suc (suc (suc (suc (suc (suc (suc (suc (suc (suc x)))))))))))))))))) y e = absurd (not_none e)

counter_kinds : (x : ℕ) (y : Variable) → slice_get objects.declarations.vars x ≡ Some y
    → HeldAs objects.declarations x (is_class_variable objects.declarations 0 y.owner) (field 0 (x ∷ [])) (λ q. held_at q.root q.path)
counter_kinds zero y e = inl (λ path. refl, not_laid (is_class_variable objects.declarations 0) _ y e refl)
counter_kinds (suc zero) y e = inl (λ path. refl, not_laid (is_class_variable objects.declarations 0) _ y e refl)
counter_kinds (suc (suc zero)) y e = inl (λ path. refl, not_laid (is_class_variable objects.declarations 0) _ y e refl)
counter_kinds (suc (suc (suc zero))) y e = inl (λ path. refl, not_laid (is_class_variable objects.declarations 0) _ y e refl)
counter_kinds (suc (suc (suc (suc zero)))) y e = inl (λ path. refl, not_laid (is_class_variable objects.declarations 0) _ y e refl)
counter_kinds (suc (suc (suc (suc (suc zero))))) y e = inl (λ path. refl, not_laid (is_class_variable objects.declarations 0) _ y e refl)
counter_kinds (suc (suc (suc (suc (suc (suc zero)))))) y e = inl (λ path. refl, not_laid (is_class_variable objects.declarations 0) _ y e refl)
counter_kinds (suc (suc (suc (suc (suc (suc (suc zero))))))) y e = inl (λ path. refl, not_laid (is_class_variable objects.declarations 0) _ y e refl)
counter_kinds (suc (suc (suc (suc (suc (suc (suc (suc zero)))))))) y e = inl (λ path. refl, not_laid (is_class_variable objects.declarations 0) _ y e refl)
counter_kinds (suc (suc (suc (suc (suc (suc (suc (suc (suc zero))))))))) y e = inr (v.Long (pos 7), refl)
counter_kinds (suc (suc (suc (suc (suc (suc (suc (suc (suc (suc zero)))))))))) y e = inr (v.Nothing, refl)
counter_kinds (suc (suc (suc (suc (suc (suc (suc (suc (suc (suc (suc zero))))))))))) y e = inl (λ path. refl, not_laid (is_class_variable objects.declarations 0) _ y e refl)
counter_kinds (suc (suc (suc (suc (suc (suc (suc (suc (suc (suc (suc (suc zero)))))))))))) y e = inl (λ path. refl, not_laid (is_class_variable objects.declarations 0) _ y e refl)
counter_kinds (suc (suc (suc (suc (suc (suc (suc (suc (suc (suc (suc (suc (suc zero))))))))))))) y e = inl (λ path. refl, not_laid (is_class_variable objects.declarations 0) _ y e refl)
counter_kinds (suc (suc (suc (suc (suc (suc (suc (suc (suc (suc (suc (suc (suc (suc zero)))))))))))))) y e = inl (λ path. refl, not_laid (is_class_variable objects.declarations 0) _ y e refl)
counter_kinds (suc (suc (suc (suc (suc (suc (suc (suc (suc (suc (suc (suc (suc (suc (suc zero))))))))))))))) y e = inl (λ path. refl, not_laid (is_class_variable objects.declarations 0) _ y e refl)
counter_kinds (suc (suc (suc (suc (suc (suc (suc (suc (suc (suc (suc (suc (suc (suc (suc (suc zero)))))))))))))))) y e = inl (λ path. refl, not_laid (is_class_variable objects.declarations 0) _ y e refl)
counter_kinds (suc (suc (suc (suc (suc (suc (suc (suc (suc (suc (suc (suc (suc (suc (suc (suc (suc zero))))))))))))))))) y e = inl (λ path. refl, not_laid (is_class_variable objects.declarations 0) _ y e refl)
counter_kinds (suc (suc (suc (suc (suc (suc (suc (suc (suc (suc (suc (suc (suc (suc (suc (suc (suc (suc x)))))))))))))))))) y e = absurd (not_none e)

fields_at : (o c x : ℕ) (y : Variable) → o < 1 → object_source.class_of o ≡ Some c → slice_get objects.declarations.vars x ≡ Some y
    → HeldAs objects.declarations x (is_class_variable objects.declarations c y.owner) (field o (x ∷ [])) (λ q. held_at q.root q.path)
fields_at zero c x y lt of e =
    subst (λ d. HeldAs objects.declarations x (is_class_variable objects.declarations d y.owner) (field 0 (x ∷ [])) (λ q. held_at q.root q.path))
    (some_same 0 c of) (counter_kinds x y e)
fields_at (suc o) c x y lt of e = absurd (omega arith)

stores_match : StoreMatch object_sample object_world
stores_match = record {
  into = λ a lt e. below_zero a lt;
  one_to_one = λ a b lt more e f same. same;
  objects_into = λ o lt. into_at 5 o lt;
  objects_one_to_one = λ a b lt more same. moved_once 5 a b same;
  classes = λ o lt. same_class o lt;
  values = λ q h. holds_at q.root q.path h;
  apart = λ p q k h i e f. absurd (let r = moved_at object_sample object_map p in no_array r.root r.path k e);
  known = λ q k h e. absurd (let r = moved_at object_sample object_map q in no_array r.root r.path k e);
  ranks = λ q x y k h r i e. absurd (let r = moved_at object_sample object_map q in no_array r.root r.path k e);
  short = short;
  unmade = λ q u. unmade_at q.root q.path u;
  net_unmade = λ q u. net_unmade_at q.root q.path u;
  errors = refl;
  kinds = λ x y e f. kinds_at x y e;
  fields = λ o c x y lt of e f. fields_at o c x y lt of e;
}

pub objects_may_start : Start object_sample object_world 0 None [] []
objects_may_start = record {
  stores = stores_match;
  object = tt;
  own_object = λ file of class. absurd (no_class object_sample file refl of class);
  args = no_arguments object_sample object_world;
}
