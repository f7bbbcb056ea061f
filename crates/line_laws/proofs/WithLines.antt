-- A With on a place of a user type keeps the same place on both sides, one on an object the object.
use Rattle.std.proofs.Common.{◌≡◌, ◌∙◌, refl, sym, ap, subst, inl, inr, ⊎_elim, ℕ, true, false, ◌&&◌, ◌||◌, [], ◌∷◌, true≢false, nat_eq, eqb-true, not}
use Rattle.std.proofs.Math.Bool.{or-false}
use Rattle.std.proofs.lemmas.Bool.{or_cases}
use Rattle.vb_tree.specs.BoundTree as types
use Rattle.vb_tree.specs.BoundTree.{Ty}
use Rattle.vb_tree.specs.Tree as source_form
use Rattle.bound_tree.specs.Tree.{Expr, typed, Term, new_object}
use Rattle.bound_facts.proofs.Chains.{both_true}
use Rattle.bound_facts.specs.Effects.{is_outside}
use Rattle.bound_facts.specs.Node.{root}
use Rattle.run_base.specs.Frames.{Kept, keeping, keeps_address}
use Rattle.run_base.specs.Outcomes.{Outcome, gives, then}
use Rattle.run_base.specs.Positions.{Position, Root}
use Rattle.written_trees.specs.Exprs.{exp_of}
use Rattle.written_trees.specs.Names.{Scope, class_path}
use Rattle.net_tree.specs.Types.{named}
use Rattle.vb6_run.specs.Expressions as source
use Rattle.vb6_run.specs.Forms.{SourceLine}
use Rattle.vb6_run.specs.Lines.{with_address, with_does}
use Rattle.vb6_run.specs.Shapes.{Shape, simple, group, array, endless, user_shapes}
use Rattle.vb6_run.specs.Store as source_store
use Rattle.vb6_run.specs.Store.{Address, SourceCalls, SourceFrame}
use Rattle.vb6_run.specs.Values.{Value}
use Rattle.net_run.specs.Expressions as target
use Rattle.net_run.specs.Lines.{NetFrame, NetLine, scope_of, with_kept}
use Rattle.net_run.specs.Making.{Jobs}
use Rattle.net_run.specs.Members.{Code}
use Rattle.net_run.specs.Names as net_names
use Rattle.net_run.specs.Store as net
use Rattle.run_matches.specs.Addresses.{IsInPlace, Same, both_addresses, images}
use Rattle.run_matches.specs.Agreeing.{Agrees}
use Rattle.run_matches.specs.CoveredExprs.{Uses, covers_group, covers_object, covers_place, is_new, is_auto_use}
use Rattle.run_matches.specs.CoveredLines.{covers_with}
use Rattle.run_matches.specs.CoveredVariables.{covers_made, covers_type}
use Rattle.run_matches.specs.Frames.{FrameMatch, IsOwnAddress, OwnsAll, WithPlace}
use Rattle.run_matches.specs.Maps.{World, is_auto_root}
use Rattle.run_matches.specs.Match.{MemoryMatch}
use Rattle.run_matches.specs.Pledges.{IsOld, Pledge, type_of_shape}
use Rattle.run_matches.specs.SoundShapes.{IsSoundShape}
use Rattle.run_matches.specs.Upgrades.{Upgrade, class_home}
use Rattle.run_matches.specs.Formed.{is_formed}
use Rattle.run_matches.specs.Runs.{CallsAgree}
use Rattle.run_statements.specs.Frames.{AllCalled, AreReadable, ArePlaced, CanMake, IsOpen, ScalarMatch, context_of, demands}
use Rattle.run_statements.specs.Groups.{GroupsAgree, ValueMatch}
use Rattle.run_statements.specs.Members.{ObjectMatch, ObjectsAgree}
use Rattle.run_statements.specs.Objects.{ClassesAreWritten, IsMakeable}
use Rattle.run_statements.specs.Written.{Passes}
use Rattle.agreeing_laws.proofs.Agreeing.{agrees_gives, agrees_outside, agrees_weaker}
use Rattle.agreeing_laws.proofs.FieldPlaces.{group_image}
use Rattle.agreeing_laws.proofs.Fields.{GroupImage}
use Rattle.agreeing_laws.proofs.Lasting.{later_now}
use Rattle.agreeing_laws.proofs.UserShapes.{covered_type_of}
use Rattle.line_laws.proofs.Bounds.{some_is}
use Rattle.line_laws.proofs.FrameLater.{Keeps}
use Rattle.line_laws.proofs.Places.{IsOwnRoot, Located, Place, place_alone, place_is}
use Rattle.line_laws.proofs.Uses.{not_true}
use Rattle.line_laws.proofs.KeptPlaces.{CanKeep}
use Rattle.line_laws.proofs.MemberSets.{object_value}
use Rattle.line_laws.proofs.WithObjects.{IsShaped, looked_up, new_shaped, with_object_agrees}

no_class : (t c : ℕ) → types.user t ≡ types.class c → ⊥
no_class t c e = cc e

-- a structure in a variable is kept where it stands
structure_stays : (U : Upgrade) (K : Pledge) (w : World) (s : Shape) (t : ℕ) (q : Position) (b : net.Address) → IsSoundShape U s → type_of_shape s ≡ types.user t
    → Same U K w (source_store.root s q) b → (v : net.Memory) → with_kept (net.shape_at b) b v ≡ gives [] b v
structure_stays U K w (simple ty) t q b (inl covers) is same v = absurd (true≢false (sym covers ∙ ap covers_type is))
structure_stays U K w (simple ty) t q b (inr x) is same v = absurd (no_class t x.0 (sym is ∙ x.2))
structure_stays U K w (group u fs) t q b sound is same v =
    let x : GroupImage U w u fs b q = group_image U K w u fs q (source_store.root (group u fs) q) b refl same in
    ap (λ z. with_kept (net.shape_at z) z v) x.stands ∙ ap (λ z. gives [] z v) (sym x.stands)
structure_stays U K w (array e bounds) t q b sound is same v = absurd sound
structure_stays U K w endless t q b sound is same v = absurd sound

same_number : (s t : ℕ) → types.user s ≡ types.user t → s ≡ t
same_number s t e = cc

kept_is : (a b : Address) → ◌≡◌ {A = Kept Value Address} (keeps_address a) (keeps_address b) → a ≡ b
kept_is a b e = cc

module _ (U : Upgrade) (K : Pledge) (p : ℕ) (f : SourceFrame) (g : NetFrame) (l : SourceLine) (k : NetLine) (c : Code) (T : Scope)
    (declared : T.declarations ≡ U.program.declarations) (oracle : SourceCalls) (net_oracle : Jobs) (uses : Uses) (readable : AreReadable U T uses)
    (placed : ArePlaced U p f (scope_of U.written c g k) T uses) (R : World → SourceFrame → NetFrame → Type 0) (w : World) (h : MemoryMatch U w)
    (F : FrameMatch U K w p f g) (owns : OwnsAll U K p f) (aims : k.aims ≡ l.aims) (head : source_form.Exp) where
  abbrev C : source.Context
  C = context_of U oracle p f l

  abbrev S : net_names.Scope
  S = scope_of U.written c g k

  -- what is written for it keeps an address
  abbrev keeps : Expr → Outcome net.Memory NetFrame
  keeps e =
      then (target.address_of S net_oracle (exp_of T e) w.net)
      (λ a t. then (with_kept (net.shape_at a) a t) (λ b t. gives [] (keeping (keeps_address b) k.aims.after g) t))

  abbrev CanGoOn : Expr → Type 0
  CanGoOn e = Keeps U K p f g R w (source_form.with_head head) (e ∷ [])

  module _ (t : ℕ) (tm : Term) where
    abbrev e : Expr
    e = typed (types.user t) tm

    module _ (x : Place U K p w C S T net_oracle (types.user t) e) where
      abbrev a : Address
      a = source_store.root (user_shapes U.program.declarations t) x.place.position

      own_root : is_outside U.program.declarations.vars p (root e) ≡ false → IsOwnRoot K x.place.position.root
      own_root inside = subst (λ r. IsOwnRoot K r) (sym x.place.in_root) (x.own inside)

      in_place : (inside : is_outside U.program.declarations.vars p (root e) ≡ false) → IsInPlace a
      in_place inside =
          let z = (own_root inside).0 in
          record {
            place = z.0;
            shape = user_shapes U.program.declarations t;
            path = x.place.position.path;
            stands = ap (λ (r : Root). source_store.root (user_shapes U.program.declarations t) (record { root = r; path = x.place.position.path })) z.1;
          }

      place_own : is_outside U.program.declarations.vars p (root e) ≡ false → IsOwnAddress K a
      place_own inside q at old = (own_root inside).1 (subst (λ (z : Position). IsOld K z.root) (sym (some_is x.place.position q at)) old)

      with_place : WithPlace U K w t a x.place.address
      with_place = record {
        position = x.place.position;
        stands = refl;
        sound = x.place.sound;
        same = x.place.same;
        target = x.place.target;
        plain = λ q at.
            subst (λ (z : Position). is_auto_root U w.map z.root ≡ false) (some_is x.place.position q at)
            (subst (λ r. is_auto_root U w.map r ≡ false) (sym x.place.in_root) x.plain);
      }

      can_keep : CanKeep U K p f w (source_form.with_head head) (e ∷ []) (keeps_address a) (keeps_address x.place.address)
      can_keep = record {
        by = tt;
        in_place = λ d own is. subst (λ z. IsInPlace z) (kept_is a d is) (in_place (not_true (is_outside U.program.declarations.vars p (root e)) own));
        own = λ d own is. subst (λ z. IsOwnAddress K z) (kept_is a d is) (place_own (not_true (is_outside U.program.declarations.vars p (root e)) own));
        place = λ with. ((λ u is. subst (λ n. WithPlace U K w n a x.place.address) (same_number t u is) with_place), (λ n is. no_class t n is));
      }

    by_place : Located U K p w C S T net_oracle (types.user t) e → covers_place uses e ≡ true → CanGoOn e
        → Agrees U K w R (with_does C e (types.user t) w.src) (keeps e)
    by_place (inl x) covers keep =
        let goes : net.Address → net.Memory → Outcome net.Memory NetFrame =
        λ d s. then (with_kept (net.shape_at d) d s) (λ b s. gives [] (keeping (keeps_address b) k.aims.after g) s) in
        subst (λ r. Agrees U K w R (then (then r source.finished) (with_address C (types.user t))) (keeps e)) (sym (x.place.found w.src))
        (subst (λ r. Agrees U K w R (gives [] (keeping (keeps_address (a x)) l.aims.after f) w.src) (then (target.address_from S net_oracle r) goes))
        (sym (x.place.written.reached (place_alone uses (types.user t) tm covers) w.net))
        (subst (λ r. Agrees U K w R (gives [] (keeping (keeps_address (a x)) l.aims.after f) w.src)
        (then (gives [] x.place.address w.net) (λ d s. then r (λ b s. gives [] (keeping (keeps_address b) k.aims.after g) s))))
        (sym (structure_stays U K w (user_shapes U.program.declarations t) t x.place.position x.place.address x.place.sound
        (covered_type_of U.program.declarations t x.place.covers) x.place.same w.net))
        (agrees_gives U K w R (keeping (keeps_address (a x)) l.aims.after f) (keeping (keeps_address x.place.address) k.aims.after g) h
        (keep (keeps_address (a x)) (keeps_address x.place.address) l.aims.after k.aims.after (ap (λ z. z.after) aims) w (later_now U K w h)
        (λ exact. both_addresses (a x) x.place.address (images exact (a x) x.place.address x.place.same)) (can_keep x)))))
    by_place (inr x) covers keep =
        subst (λ r. Agrees U K w R (then (then r source.finished) (with_address C (types.user t))) (keeps e)) (sym (x.missing w.src))
        (agrees_outside U K w R (keeps e))

    pub with_user : AllCalled (demands U K p l k S T) e → covers_place uses e ≡ true → CanGoOn e → Agrees U K w R (with_does C e (types.user t) w.src) (keeps e)
    with_user can covers keep =
        by_place (place_is U K p f g l k c T declared oracle net_oracle uses readable placed w h F owns (types.user t) tm can covers) covers keep

module _ (U : Upgrade) (classes : ClassesAreWritten U) (groups : GroupsAgree U) (objects : ObjectsAgree U) (K : Pledge) (p : ℕ) (f : SourceFrame) (g : NetFrame)
    (l : SourceLine) (k : NetLine) (c : Code) (T : Scope) (declared : T.declarations ≡ U.program.declarations) (oracle : SourceCalls) (net_oracle : Jobs)
    (is_open : IsOpen (scope_of U.written c g k)) (uses : Uses) (readable : AreReadable U T uses) (placed : ArePlaced U p f (scope_of U.written c g k) T uses)
    (agree : CallsAgree U (Passes U) oracle net_oracle) (R : World → SourceFrame → NetFrame → Type 0) (w : World) (h : MemoryMatch U w)
    (F : FrameMatch U K w p f g) (owns : OwnsAll U K p f) (aims : k.aims ≡ l.aims) (head : source_form.Exp) where
  abbrev CH : source.Context
  CH = context_of U oracle p f l

  abbrev SH : net_names.Scope
  SH = scope_of U.written c g k

  abbrev Can : Expr → Type 0
  Can e = AllCalled (demands U K p l k SH T) e

  abbrev KeptOn : Ty → Term → Type 0
  KeptOn ty tm =
      Keeps U K p f g R w (source_form.with_head head) (typed ty tm ∷ [])
      → Agrees U K w R (with_does CH (typed ty tm) ty w.src)
      (then (target.address_of SH net_oracle (exp_of T (typed ty tm)) w.net)
      (λ a t. then (with_kept (net.shape_at a) a t) (λ b t. gives [] (keeping (keeps_address b) k.aims.after g) t)))

  abbrev Shaped : (class : ℕ) → Term → Type 0
  Shaped class tm =
      IsShaped U class (source.value_of CH (typed (types.class class) tm) w.src) (target.address_of SH net_oracle (exp_of T (typed (types.class class) tm)) w.net)

  made_alone : (class : ℕ) (tm : Term) → Can (typed (types.class class) tm) → is_new (typed (types.class class) tm) ≡ true
      → covers_group uses (typed (types.class class) tm) ≡ true → Shaped class tm
  made_alone class (new_object made) can new covers =
      let both = both_true (nat_eq class made.0) (uses.made made.0) covers in
      let covered : covers_made U.program made.0 ≡ true = readable.made made.0 both.1 in
      let x : CanMake U K SH T made.0 = can covered in
      let m : IsMakeable U made.0 = classes made.0 covered in
      new_shaped U class m.home (ap (class_home U) (eqb-true class made.0 both.0) ∙ m.is_home) SH net_oracle (named (class_path T.declarations made.0))
      (x.leads m.home m.is_home) (source.value_of CH (typed (types.class class) (new_object made)) w.src) w.net
  made_alone class _ can new covers = absurd (true≢false (sym new))

  module _ (class : ℕ) (tm : Term) (can : Can (typed (types.class class) tm)) (formed : is_formed (typed (types.class class) tm) ≡ true) where
    abbrev d : Expr
    d = typed (types.class class) tm

    new_object_at : is_new d ≡ true → covers_group uses d ≡ true
        → Agrees U K w (ObjectMatch U class) (source.value_of CH d w.src) (target.address_of SH net_oracle (exp_of T d) w.net)
    new_object_at new covers =
        looked_up U K w class (source.value_of CH d w.src) (target.address_of SH net_oracle (exp_of T d) w.net) (made_alone class tm can new covers)
        (agrees_weaker U K w (ValueMatch U (simple (types.class class))) (ScalarMatch U (types.class class)) (source.value_of CH d w.src)
        (target.value_of SH net_oracle (exp_of T d) w.net) (λ u x y lat m. object_value U u class x y m)
        (groups K w p f g oracle net_oracle l k c T uses (types.class class) tm h F declared is_open readable placed agree can covers formed))

    with_class : ((not (is_auto_use uses d) && covers_object uses d) || (is_new d && covers_group uses d)) ≡ true → KeptOn (types.class class) tm
    with_class covers =
        ⊎_elim
        (λ x.
        with_object_agrees U K p f g l k c T oracle net_oracle R w h aims head class tm
        (objects K w p f g oracle net_oracle l k c T uses class tm h F declared is_open readable placed agree can
        (both_true (not (is_auto_use uses d)) (covers_object uses d) x).1 formed))
        (λ x.
        let both = both_true (is_new d) (covers_group uses d) x in
        with_object_agrees U K p f g l k c T oracle net_oracle R w h aims head class tm (new_object_at both.0 both.1))
        (or_cases (not (is_auto_use uses d) && covers_object uses d) (is_new d && covers_group uses d) covers)

  pub with_agrees : (ty : Ty) (tm : Term) → Can (typed ty tm) → covers_with uses (typed ty tm ∷ []) ≡ true → is_formed (typed ty tm) ≡ true → KeptOn ty tm
  with_agrees (types.user t) tm can covers formed keep =
      with_user U K p f g l k c T declared oracle net_oracle uses readable placed R w h F owns aims head t tm can
      (sym (or-false (covers_place uses (typed (types.user t) tm))) ∙ covers) keep
  with_agrees (types.class n) tm can covers formed keep = with_class n tm can formed covers keep
  with_agrees _ tm can covers formed keep = absurd (true≢false (sym covers))
