-- Variables that are used stay images of each other.
use Rattle.std.proofs.Common.{◌≡◌, ap, inl, inr, sym, subst, ℕ, Bool, false, true, not, Some}
use Rattle.run_base.specs.Positions.{Position}
use Rattle.written_trees.specs.Names.{Scope}
use Rattle.vb6_run.specs.Shapes.{Shape, simple, group, array, endless, variable_shape}
use Rattle.vb6_run.specs.Store.{Address, SourceFrame}
use Rattle.net_run.specs.Names as net_names
use Rattle.net_run.specs.Store as net
use Rattle.run_matches.specs.Addresses.{Same, same_root, Bound, images, mirrored, IsPlain, position_of, same_item}
use Rattle.run_matches.specs.CoveredExprs.{Uses}
use Rattle.run_matches.specs.Frames.{StandsAs, is_mirrored}
use Rattle.run_matches.specs.Maps.{World, IsMade, is_auto_root, is_auto_variable, mark}
use Rattle.run_matches.specs.Match.{MemoryMatch}
use Rattle.run_matches.specs.Pledges.{Pledge, Later}
use Rattle.run_matches.specs.Upgrades.{Upgrade}
use Rattle.agreeing_laws.proofs.Made.{same_variable}
use Rattle.agreeing_laws.proofs.Lasting.{later_then}
use Rattle.agreeing_laws.proofs.Moves.{address_later, matched_whole}
use Rattle.expression_laws.specs.Images.{HasImage, HaveImages, IsImage}
use Rattle.expression_laws.proofs.ModuleImages.{some_is}

address_made : (U : Upgrade) (K : Pledge) (w : World) (a : Address) (b : net.Address) → Same U K w a b → (q : Position) → position_of a ≡ Some q
    → IsMade (mark w.src) q.root
address_made U K w _ _ (same_root s d p sh m r) q e = subst (λ (z : Position). IsMade (mark w.src) z.root) (some_is p q e) (matched_whole U w s p m).is_made
address_made U K w _ _ (same_item x s d p k j path keeps m has part sh) q e = subst (λ (z : Position). IsMade (mark w.src) z.root) (some_is p q e) m.is_made

pub plain_later : (U : Upgrade) (K : Pledge) (w0 w1 : World) (a : Address) (b : net.Address) → Later U K w0 w1 → Same U K w0 a b → IsPlain U w0 a → IsPlain U w1 a
plain_later U K w0 w1 a b l same h q e =
    subst (λ v. is_auto_variable U v ≡ false) (sym (same_variable U w0 w1 l.extends q.root (address_made U K w0 a b same q e))) (h q e)

-- so it is with one that is
pub auto_later : (U : Upgrade) (K : Pledge) (w0 w1 : World) (a : Address) (b : net.Address) (q : Position) → Later U K w0 w1 → Same U K w0 a b
    → position_of a ≡ Some q → is_auto_root U w0.map q.root ≡ true → is_auto_root U w1.map q.root ≡ true
auto_later U K w0 w1 a b q l same e h =
    subst (λ v. is_auto_variable U v ≡ true) (sym (same_variable U w0 w1 l.extends q.root (address_made U K w0 a b same q e))) h

-- what stands at a position
position_there : (s : Shape) (a : Address) (q : Position) → StandsAs s a q → position_of a ≡ Some q
position_there (simple ty) a q (inl e) = ap position_of e
position_there (simple ty) a q (inr e) = ap position_of e.1
position_there (group t fs) a q e = ap position_of e
position_there (array f bounds) a q e = ap position_of e.1
position_there endless a q e = ap position_of e

bound_later : (U : Upgrade) (K : Pledge) (w0 w1 : World) → MemoryMatch U w0 → Later U K w0 w1 → (exact : Bool) (a : Address) (b : net.Address)
    → Bound U K w0 exact a b → Bound U K w1 exact a b
bound_later U K w0 w1 h l _ _ _ (images t a b s) = images t a b (address_later U K w0 w1 a b l s)
bound_later U K w0 w1 h l _ _ _ (mirrored a b m) = mirrored a b (record { holds = λ w2 x. m.holds w2 (later_then U K w0 w1 w2 h l x) })

image_later : (U : Upgrade) (K : Pledge) (w0 w1 : World) (v : ℕ) (a : Address) (b : net.Address) → Later U K w0 w1 → IsImage U K w0 v a b → IsImage U K w1 v a b
image_later U K w0 w1 v a b l x = record {
  same = address_later U K w0 w1 a b l x.same;
  target = x.target;
  plain = λ plain. plain_later U K w0 w1 a b l x.same (x.plain plain);
  position = x.position;
  auto = λ auto. auto_later U K w0 w1 a b x.position l x.same (position_there (variable_shape U.program.declarations v) a x.position x.stands) (x.auto auto);
  stands = x.stands;
  ranked = x.ranked;
}

pub images_later : (U : Upgrade) (K : Pledge) (w0 w1 : World) (f : SourceFrame) (S : net_names.Scope) (T : Scope) (uses : Uses) → MemoryMatch U w0
    → Later U K w0 w1 → HaveImages U K w0 f S T uses → HaveImages U K w1 f S T uses
images_later U K w0 w1 f S T uses start l h v a used is =
    let x : HasImage U K w0 S T (uses.named v) v.0 a = h v a used is in
    record {
      address = x.address;
      found = x.found;
      bound = bound_later U K w0 w1 start l (not (is_mirrored U v.0)) a x.address x.bound;
      of_scalars = x.of_scalars;
      whole = x.whole;
      image = λ exact. image_later U K w0 w1 v.0 a x.address l (x.image exact);
    }
