-- What a line without a fault of nesting finds open.
use Rattle.std.proofs.Common.{◌≡◌, ℕ, Bool, true, false, ◌||◌, cond, List, [], ◌∷◌, length, get_or, Option, Some, None, refl, sym, ap, ◌∙◌, eqb-true}
use Rattle.std.proofs.lemmas.Bool.{false≢true}
use Rattle.vb_tree.specs.declared.block.BlockKind.{BlockKind}
use Rattle.vb_tree.specs.declared.block.BlockKind.TheVariants as kind
use Rattle.vb_tree.specs.declared.block.Role.{Role}
use Rattle.vb_tree.specs.declared.block.Role.TheVariants.{Opens, Parts, Closes}
use Rattle.vb_tree.specs.Blocks.{is_procedure, is_group}
use Rattle.vb_tree.specs.ModuleTree.{IsInnerBlock}
use Rattle.vb_lines.specs.Nesting.{Open, is_outermost, is_same_kind, kind_number, fault_in_group, fault_in_procedure, fault_of}

abbrev kinds : List BlockKind
kinds = kind.Type ∷ kind.Enum ∷ kind.Sub ∷ kind.Function ∷ kind.Property ∷ kind.If ∷ kind.Select ∷ kind.For ∷ kind.Do ∷ kind.While ∷ kind.With ∷ []

kind_at : (k : BlockKind) → get_or kinds (kind_number k) kind.Type ≡ k
kind_at kind.Type = refl
kind_at kind.Enum = refl
kind_at kind.Sub = refl
kind_at kind.Function = refl
kind_at kind.Property = refl
kind_at kind.If = refl
kind_at kind.Select = refl
kind_at kind.For = refl
kind_at kind.Do = refl
kind_at kind.While = refl
kind_at kind.With = refl

pub same_kind : (a b : BlockKind) → is_same_kind a b ≡ true → a ≡ b
same_kind a b e = sym (kind_at a) ∙ ap (λ n. get_or kinds n kind.Type) (eqb-true (kind_number a) (kind_number b) e) ∙ kind_at b

none_then : (b : Bool) (n : ℕ) → cond b None (Some n) ≡ None → b ≡ true
none_then true n e = refl
none_then false n e = cc

none_else : (b : Bool) (n : ℕ) (o : Option ℕ) → cond b (Some n) o ≡ None → b ≡ false
none_else true n o e = cc
none_else false n o e = refl

either_false : (a b : Bool) → (a || b) ≡ false → (a ≡ false) × (b ≡ false)
either_false true b e = absurd (false≢true (sym e))
either_false false b e = (refl, e)

in_procedure : (b : Bool) (k : BlockKind) (depth : ℕ) (r : Role) → b ≡ false → cond b (fault_in_group k r) (fault_in_procedure k depth r) ≡ None → fault_in_procedure k depth r ≡ None
in_procedure true k depth r e h = absurd (false≢true (sym e))
in_procedure false k depth r e h = h

in_group : (b : Bool) (k : BlockKind) (depth : ℕ) (r : Role) → b ≡ true → cond b (fault_in_group k r) (fault_in_procedure k depth r) ≡ None → fault_in_group k r ≡ None
in_group true k depth r e h = h
in_group false k depth r e h = absurd (false≢true e)

-- in a procedure
pub opens_inner : (o : Open) (opens : List Open) (k : BlockKind) → is_group o.kind ≡ false → fault_of (o ∷ opens) (Opens k) ≡ None → IsInnerBlock k
opens_inner o opens k no_group h = either_false (is_procedure k) (is_group k) (none_else (is_outermost k) 10 _ (in_procedure (is_group o.kind) o.kind (length (o ∷ opens)) (Opens k) no_group h))

pub parts_same : (o : Open) (opens : List Open) (k : BlockKind) → is_group o.kind ≡ false → fault_of (o ∷ opens) (Parts k) ≡ None → k ≡ o.kind
parts_same o opens k no_group h = same_kind k o.kind (none_then (is_same_kind k o.kind) 11 (in_procedure (is_group o.kind) o.kind (length (o ∷ opens)) (Parts k) no_group h))

pub closes_same : (o : Open) (opens : List Open) (k : BlockKind) → is_group o.kind ≡ false → fault_of (o ∷ opens) (Closes k) ≡ None → k ≡ o.kind
closes_same o opens k no_group h = same_kind k o.kind (none_then (is_same_kind k o.kind) 11 (in_procedure (is_group o.kind) o.kind (length (o ∷ opens)) (Closes k) no_group h))

-- in a Type or Enum
pub group_closes : (o : Open) (opens : List Open) (k : BlockKind) → is_group o.kind ≡ true → fault_of (o ∷ opens) (Closes k) ≡ None → k ≡ o.kind
group_closes o opens k in_one h = same_kind k o.kind (none_then (is_same_kind k o.kind) 11 (in_group (is_group o.kind) o.kind (length (o ∷ opens)) (Closes k) in_one h))

pub group_opens_none : (o : Open) (opens : List Open) (k : BlockKind) → is_group o.kind ≡ true → fault_of (o ∷ opens) (Opens k) ≡ None → ⊥
group_opens_none o opens k in_one h = let e = in_group (is_group o.kind) o.kind (length (o ∷ opens)) (Opens k) in_one h in cc

pub group_parts_none : (o : Open) (opens : List Open) (k : BlockKind) → is_group o.kind ≡ true → fault_of (o ∷ opens) (Parts k) ≡ None → ⊥
group_parts_none o opens k in_one h = let e = in_group (is_group o.kind) o.kind (length (o ∷ opens)) (Parts k) in_one h in cc

-- at module level
pub module_opens : (k : BlockKind) → fault_of [] (Opens k) ≡ None → is_outermost k ≡ true
module_opens k h = none_then (is_outermost k) 10 h

pub module_parts_none : (k : BlockKind) → fault_of [] (Parts k) ≡ None → ⊥
module_parts_none k h = cc

pub module_closes_none : (k : BlockKind) → fault_of [] (Closes k) ≡ None → ⊥
module_closes_none k h = by (is_outermost k) h
  where
    by : (b : Bool) → cond {A = Option ℕ} b (Some 11) (Some 10) ≡ None → ⊥
    by true e = cc
    by false e = cc

pub outermost_procedure : (k : BlockKind) → is_outermost k ≡ true → is_group k ≡ false → is_procedure k ≡ true
outermost_procedure k h no_group = by (is_procedure k) (is_group k) h no_group
  where
    by : (a b : Bool) → (a || b) ≡ true → b ≡ false → a ≡ true
    by true b e f = refl
    by false true e f = absurd (false≢true (sym f))
    by false false e f = absurd (false≢true e)
