-- What a position holds goes on to be of its kind.
use Rattle.std.proofs.Common.{◌≡◌, refl, subst, ℕ, suc}
use Rattle.run_base.specs.Positions.{Position, inner}
use Rattle.vb6_run.specs.Shapes.{Shape, simple, group, array, endless, Shapes, no_shapes, next_shape}
use Rattle.vb6_run.specs.Store.{Held, blank, single, table, parts}
use Rattle.run_matches.specs.Kinds.{IsKind, KeepsKind, AreKinds, AreFieldKinds}

pub keeps_self : (h : Held) → KeepsKind h h
keeps_self blank = tt
keeps_self (single ty x) = (x, refl)
keeps_self (table e dims xs) = (dims, xs, refl)
keeps_self parts = refl

pub keeps_as : (h k : Held) → k ≡ h → KeepsKind h k
keeps_as h k e = subst (λ z. KeepsKind z k) e (keeps_self k)

pub keeps_then : (g h k : Held) → KeepsKind g h → KeepsKind h k → KeepsKind g k
keeps_then blank h k a b = tt
keeps_then (single ty x) h k a b = subst (λ z. KeepsKind z k) a.1 b
keeps_then (table e dims xs) h k a b = subst (λ z. KeepsKind z k) a.2 b
keeps_then parts h k a b = subst (λ z. KeepsKind z k) a b

-- a variable of a shape goes on to hold what its shape says
pub kind_kept : (s : Shape) (h k : Held) → IsKind s h → KeepsKind h k → IsKind s k
kind_kept (simple ty) h k a b = subst (λ z. KeepsKind z k) a.1 b
kind_kept (group t fs) h k a b = subst (λ z. KeepsKind z k) a b
kind_kept (array e bounds) h k a b = subst (λ z. KeepsKind z k) a.2 b
kind_kept endless h k a b = a

module _ (h k : Position → Held) (keeps : (p : Position) → KeepsKind (h p) (k p)) where
  mutual
    -- what was made goes on to be made
    pub kinds_kept_by : (s : Shape) (q : Position) → AreKinds s q h → AreKinds s q k
    kinds_kept_by (simple ty) q a = kind_kept (simple ty) (h q) (k q) a (keeps q)
    kinds_kept_by (group t fs) q a = (kind_kept (group t fs) (h q) (k q) a.0 (keeps q), field_kinds_kept fs q 0 a.1)
    kinds_kept_by (array e bounds) q a = kind_kept (array e bounds) (h q) (k q) a (keeps q)
    kinds_kept_by endless q a = absurd a

    field_kinds_kept : (fs : Shapes) (q : Position) (i : ℕ) → AreFieldKinds fs q i h → AreFieldKinds fs q i k
    field_kinds_kept no_shapes q i a = tt
    field_kinds_kept (next_shape s rest) q i a = (kinds_kept_by s (inner q i) a.0, field_kinds_kept rest q (suc i) a.1)

pub kinds_kept : (s : Shape) (q : Position) (h k : Position → Held) → ((p : Position) → KeepsKind (h p) (k p)) → AreKinds s q h → AreKinds s q k
kinds_kept s q h k keeps a = kinds_kept_by h k keeps s q a
