-- A variable at an index parameter: its value lasts, and is found by both sides while the property runs.
use Rattle.std.proofs.Common.{◌≡◌, ◌∙◌, refl, sym, ap, subst, ℕ, true, false, ◌&&◌, Some, true≢false}
use Rattle.vb_tree.specs.BoundTree as types
use Rattle.vb_tree.specs.BoundTree.{Ty}
use Rattle.vb_tree.specs.declared.value.Value6.{Value6}
use Rattle.bound_facts.specs.Locks.{is_same_type}
use Rattle.run_base.specs.Positions.{Position}
use Rattle.vb6_run.specs.Shapes.{simple}
use Rattle.vb6_run.specs.Store.{Address, Held, blank, held_at, root, single, single_in, value_if}
use Rattle.vb6_run.specs.Values.{scalar}
use Rattle.net_run.specs.Shapes as shape
use Rattle.net_run.specs.Store as net
use Rattle.net_run.specs.Values as net_value
use Rattle.run_matches.specs.Addresses.{IsPlain, IsThere, Mirrors, position_of}
use Rattle.run_matches.specs.CoveredVariables.{covers_type}
use Rattle.run_matches.specs.Likeness.{scalar_shaped}
use Rattle.run_matches.specs.Maps.{IsMade, World, is_auto_root, is_auto_variable, mark}
use Rattle.run_matches.specs.Pledges.{IsLasting, Later, Pledge}
use Rattle.run_matches.specs.Upgrades.{Upgrade}
use Rattle.agreeing_laws.proofs.Made.{made_more, same_variable}
use Rattle.agreeing_laws.proofs.Scalars.{scalar_later}
use Rattle.run_statements.specs.Arguments.{IsIndex}

itself : (ty : Ty) → covers_type ty ≡ true → is_same_type ty ty ≡ true
itself types.boolean c = refl
itself types.byte c = refl
itself types.integer c = refl
itself types.long c = refl
itself types.currency c = refl
itself types.str c = refl
itself _ c = absurd (true≢false (sym c))

not_blank : (ty : Ty) (x : Value6) → single ty x ≡ blank → ⊥
not_blank ty x e = cc e

some_is : (p q : Position) → Some p ≡ Some q → p ≡ q
some_is p q e = cc e

-- a scalar that is held is read
pub scalar_held : (ty : Ty) (x : Value6) (q : Position) (held : Position → Held) → covers_type ty ≡ true → held q ≡ single ty x
    → held_at (root (simple ty) q) held ≡ Some (scalar ty x)
scalar_held ty x q held c is = ap (single_in ty) is ∙ ap (λ b. value_if b (scalar ty x)) (itself ty c)

module _ (U : Upgrade) (q i : ℕ) (w : World) (a : Address) (y : net_value.Value) (x : IsIndex U q i w a y) where
  pub index_found : held_at a w.src.held ≡ Some (scalar x.ty x.value)
  index_found = ap (λ b. held_at b w.src.held) x.stands ∙ scalar_held x.ty x.value x.position w.src.held x.covers x.held

  stands_at : (p : Position) → position_of a ≡ Some p → x.position ≡ p
  stands_at p e = some_is x.position p (sym (ap position_of x.stands) ∙ e)

  pub index_there : IsThere w a
  index_there p e = subst (λ (z : Position). IsMade (mark w.src) z.root) (stands_at p e) x.is_made

  pub index_plain : IsPlain U w a
  index_plain p e = subst (λ (z : Position). is_auto_root U w.map z.root ≡ false) (stands_at p e) x.plain

  -- it lasts where its position does
  pub index_later : (K : Pledge) (u : World) → Later U K w u → IsLasting U K w x.position → IsIndex U q i u a y
  index_later K u l lasting = record {
    variable = x.variable;
    ty = x.ty;
    covers = x.covers;
    position = x.position;
    stands = x.stands;
    value = x.value;
    held = l.same_values x.position lasting (λ none. not_blank x.ty x.value (sym x.held ∙ none)) ∙ x.held;
    like = scalar_later U K w u x.ty x.value y l x.like;
    is_made = made_more (mark w.src) (mark u.src) l.grows x.position.root x.is_made;
    plain = subst (λ v. is_auto_variable U v ≡ false) (sym (same_variable U w u l.extends x.position.root x.is_made)) x.plain;
    quiet = x.quiet;
    inward = x.inward;
    takes = x.takes;
  }

-- so both sides find the same at each later world
pub index_mirrors : (U : Upgrade) (K : Pledge) (q i : ℕ) (w : World) (a : Address) (y : net_value.Value) (x : IsIndex U q i w a y) → IsLasting U K w x.position
    → Mirrors U K w a (net.constant shape.shapeless y)
index_mirrors U K q i w a y x lasting = record {
  holds = λ u l.
      let z : IsIndex U q i u a y = index_later U q i w a y x K u l lasting in
      record {
        value = scalar z.ty z.value;
        source = index_found U q i u a y z;
        like = z.like;
        shaped = scalar_shaped z.ty z.value shape.shapeless;
        is_made = index_there U q i u a y z;
      };
}
