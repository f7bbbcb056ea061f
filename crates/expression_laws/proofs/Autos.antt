-- Where As New variables stand: what is written for them without an object leads to their images.
use Rattle.std.proofs.Common.{◌≡◌, ◌∙◌, refl, sym, ap, subst, inr, ℕ, Bool, true, false, [], Option, Some, None, true≢false, slice_get}
use Rattle.std.specs.Prelude.{◌&&◌, is_some, not}
use Rattle.vb_tree.specs.BoundTree as types
use Rattle.vb_tree.specs.BoundTree.{Ty}
use Rattle.vb_tree.specs.declared.declared.Owner.{Owner}
use Rattle.vb_tree.specs.declared.declared.Owner.TheVariants as owner
use Rattle.vb_tree.specs.declared.declared.VarId.{VarId}
use Rattle.bound_tree.specs.Tree.{typed, variable}
use Rattle.bound_facts.specs.Facts.{is_quiet_owner, is_quiet_variable}
use Rattle.net_tree.specs.Tree.{path}
use Rattle.run_base.specs.Outcomes.{Outcome, gives, outside, some_of, then}
use Rattle.vb6_run.specs.Expressions as source
use Rattle.vb6_run.specs.Expressions.{Context, at_address, declared}
use Rattle.vb6_run.specs.Forms.{SourceLine}
use Rattle.vb6_run.specs.Runnables.{variable_address}
use Rattle.vb6_run.specs.Store.{Address, Memory, SourceCalls, SourceFrame}
use Rattle.net_run.specs.Expressions as target
use Rattle.net_run.specs.Lines.{NetFrame, NetLine, scope_of}
use Rattle.net_run.specs.Making.{Jobs}
use Rattle.net_run.specs.Members.{Code}
use Rattle.net_run.specs.Names as net_names
use Rattle.net_run.specs.Names.{Reached, at_place, called, path_start, to_support}
use Rattle.net_run.specs.Store as net
use Rattle.written_trees.specs.Exprs.{target_exp}
use Rattle.written_trees.specs.Names.{Scope, variable_path}
use Rattle.run_matches.specs.Addresses.{position_of}
use Rattle.run_matches.specs.Agreeing.{Agrees}
use Rattle.run_matches.specs.CoveredExprs.{Uses}
use Rattle.run_matches.specs.CoveredVariables.{covers_auto_owner, covers_made}
use Rattle.run_matches.specs.Frames.{frame_pledge, is_mirrored, is_scalar_in}
use Rattle.run_matches.specs.Maps.{World}
use Rattle.run_matches.specs.Pledges.{Later, Pledge}
use Rattle.run_matches.specs.Upgrades.{Upgrade}
use Rattle.run_statements.specs.Autos.{AutoMatch, AutosAreReached}
use Rattle.run_statements.specs.Frames.{AreReadable, IsAutoOf, context_of}
use Rattle.agreeing_laws.proofs.Agreeing.{agrees_gives, agrees_outside}
use Rattle.agreeing_laws.proofs.Moves.{address_later}
use Rattle.expression_laws.specs.Statements.{AutosAreReachedBy}
use Rattle.expression_laws.specs.Images.{HasImage, HaveImages, IsImage}
use Rattle.expression_laws.proofs.Images.{images_now}
use Rattle.expression_laws.proofs.LastingImages.{auto_later}
use Rattle.expression_laws.proofs.UsedShapes.{auto_made, auto_stands}

-- the variable is found on both sides
pub record IsAutoHere (U : Upgrade) (K : Pledge) (C : Context) (S : net_names.Scope) (oracle : Jobs) (T : Scope) (w : World) (class : ℕ) (v : VarId)
    (qualified : Bool) : Type 0 where
  pub address : Address
  pub net_address : net.Address
  pub found : (s : Memory) → source.variable_parts C v.0 s ≡ gives [] (at_address address) s
  pub leads : (t : net.Memory) → target.reach S oracle false (path (variable_path T qualified v.0)) t ≡ gives [] (at_place net_address) t
  pub match : AutoMatch U K class w address net_address

pub data AutoIs (U : Upgrade) (K : Pledge) (C : Context) (S : net_names.Scope) (oracle : Jobs) (T : Scope) (w : World) (class : ℕ) (v : VarId)
    (qualified : Bool) : Type 0 where
  no_variable : ((s : Memory) → source.variable_parts C v.0 s ≡ outside []) → AutoIs U K C S oracle T w class v qualified
  here : IsAutoHere U K C S oracle T w class v qualified → AutoIs U K C S oracle T w class v qualified

pub match_later : (U : Upgrade) (K : Pledge) (class : ℕ) (w v : World) (a : Address) (b : net.Address) → Later U K w v → AutoMatch U K class w a b
    → AutoMatch U K class v a b
match_later U K class w v a b later m = record {
  position = m.position;
  stands = m.stands;
  same = address_later U K w v a b later m.same;
  target = m.target;
  is_auto = auto_later U K w v a b m.position later m.same (ap position_of m.stands) m.is_auto;
}

-- it is no parameter
auto_exact : (U : Upgrade) (v class : ℕ) → IsAutoOf U v class → is_mirrored U v ≡ false
auto_exact U v class r =
    ap (λ b. b && is_scalar_in (slice_get U.program.declarations.vars v))
    (ap (λ o. is_quiet_variable U.known o && not (U.known.touched v)) r.is_variable ∙ ap (λ b. b && not (U.known.touched v)) (by r.variable.owner r.owner))
  where
    by : (o : Owner) → covers_auto_owner o ≡ true → is_quiet_owner U.known o ≡ false
    by (owner.Reference q) covers = absurd (true≢false (sym covers))
    by _ covers = refl

same_class_number : (c d : ℕ) → types.class c ≡ types.class d → d ≡ c
same_class_number c d e = cc e

-- what is used so is one of the class
pub auto_used : (U : Upgrade) (T : Scope) (uses : Uses) → AreReadable U T uses → (class : ℕ) (v : VarId) → uses.auto v (types.class class) ≡ true
    → IsAutoOf U v.0 class × (covers_made U.program class ≡ true)
auto_used U T uses readable class v used =
    let r = readable.autos v (types.class class) used in
    let e : r.0 ≡ class = same_class_number class r.0 r.1 in
    (subst (λ c. IsAutoOf U v.0 c) e r.2, subst (λ c. covers_made U.program c ≡ true) e r.3)

module _ (U : Upgrade) (K : Pledge) (p : ℕ) (f : SourceFrame) (g : NetFrame) (oracle : SourceCalls) (net_oracle : Jobs) (l : SourceLine) (k : NetLine)
    (c : Code) (T : Scope) (uses : Uses) (readable : AreReadable U T uses) (w : World)
    (have : HaveImages U K w f (scope_of U.written c g k) T uses) where
  -- a variable that is used so is found
  pub auto_is : (class : ℕ) (v : VarId) (qualified : Bool) → uses.auto v (types.class class) ≡ true → uses.named v qualified ≡ true
      → AutoIs U K (context_of U oracle p f l) (scope_of U.written c g k) net_oracle T w class v qualified
  auto_is class v qualified used named = by (variable_address U.program.declarations f v.0) refl
    where
      C : Context
      C = context_of U oracle p f l

      S : net_names.Scope
      S = scope_of U.written c g k

      r : IsAutoOf U v.0 class
      r = (auto_used U T uses readable class v used).0

      by : (o : Option Address) → variable_address U.program.declarations f v.0 ≡ o
          → AutoIs U K (context_of U oracle p f l) (scope_of U.written c g k) net_oracle T w class v qualified
      by None is = no_variable (λ s. ap (λ o. some_of o (λ a w. gives [] (at_address a) w) s) is)
      by (Some a) is =
          let x : HasImage U K w (scope_of U.written c g k) T (uses.named v) v.0 a = have v a (inr (inr (inr (types.class class, used)))) is in
          let y : IsImage U K w v.0 a x.address = x.image (auto_exact U v.0 class r) in
          here (record {
            address = a;
            net_address = x.address;
            found = λ s. ap (λ o. some_of o (λ a w. gives [] (at_address a) w) s) is;
            leads = λ t. ap (λ z. target.started (scope_of U.written c g k) net_oracle z t) (x.found qualified named);
            match =
                record {
                  position = y.position;
                  stands = auto_stands U v.0 class r a y.position y.stands y.target;
                  same = y.same;
                  target = y.target;
                  is_auto = y.auto (ap is_some (auto_made U v.0 class r));
                };
          })

-- ---- the law

pub autos_are_reached_by : (U : Upgrade) (K : Pledge) → AutosAreReachedBy U K
autos_are_reached_by U K w p f g oracle net_oracle l k c T uses class v qualified start frames declarations readable placed used named =
    by
    (auto_is U K p f g oracle net_oracle l k c T uses readable w
    (images_now U K w p f g (scope_of U.written c g k) refl refl T declarations frames uses start readable placed) class v qualified used named)
  where
    r' : Outcome net.Memory net.Address
    r' = target.address_of (scope_of U.written c g k) net_oracle (target_exp T (typed (types.class class) (variable v qualified))) w.net

    by : AutoIs U K (context_of U oracle p f l) (scope_of U.written c g k) net_oracle T w class v qualified
        → Agrees U K w (AutoMatch U K class)
        (then (source.term_parts (context_of U oracle p f l) (types.class class) (variable v qualified) w.src) source.finished) r'
    by (no_variable none) =
        subst (λ z. Agrees U K w (AutoMatch U K class) (then z source.finished) r') (sym (none w.src)) (agrees_outside U K w (AutoMatch U K class) r')
    by (here x) =
        subst (λ z. Agrees U K w (AutoMatch U K class) (then z source.finished) r') (sym (x.found w.src))
        (subst (λ z. Agrees U K w (AutoMatch U K class) (gives [] x.address w.src) (target.address_from (scope_of U.written c g k) net_oracle z))
        (sym (x.leads w.net)) (agrees_gives U K w (AutoMatch U K class) x.address x.net_address start x.match))

pub autos_are_reached : (U : Upgrade) → AutosAreReached U
autos_are_reached U K = autos_are_reached_by U K

-- under the pledge of a frame
pub frame_autos_are_reached : (U : Upgrade) (p : ℕ) (w : World) (f : SourceFrame) → AutosAreReachedBy U (frame_pledge U p w f)
frame_autos_are_reached U p w f = autos_are_reached_by U (frame_pledge U p w f)
