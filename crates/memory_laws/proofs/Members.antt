-- A variable of an object is found on both sides where there is an object, or both raise 91.
use Rattle.std.proofs.Common.{◌≡◌, ◌⊎◌, inl, inr, refl, sym, ap, subst, ◌∙◌, ℕ, ◌<◌, Bool, true, false, not, cond, nat_eq, Option, Some, None, List, [], ◌∷◌, true≢false, eqb-true, ltb-true}
use Rattle.std.specs.Prelude.{ℤ, is_some, nat_lt}
use Rattle.up_base.proofs.Tests.{both_true}
use Rattle.vb_tree.specs.BoundTree.{Ty, class}
use Rattle.vb_tree.specs.declared.value.Value6.{Value6}
use Rattle.bound_tree.specs.Tree.{Declarations}
use Rattle.bound_facts.specs.Node.{auto_class, class_in}
use Rattle.net_meaning.specs.declared.value.ValueN.{ValueN}
use Rattle.net_meaning.specs.ValueMatch.{Matches, no_object_of, objects_of}
use Rattle.run_base.specs.Outcomes.{gives}
use Rattle.run_base.specs.Positions.{Key, Position, field, whole}
use Rattle.vb6_run.specs.Expressions as source
use Rattle.vb6_run.specs.Expressions.{at_field}
use Rattle.vb6_run.specs.Objects.{is_class}
use Rattle.vb6_run.specs.Shapes.{Shape, simple, declared_shape, shape_by, user_shapes, variable_shape}
use Rattle.vb6_run.specs.Store.{root, provided}
use Rattle.vb6_run.specs.Values.{scalar}
use Rattle.net_run.specs.Expressions as target
use Rattle.net_run.specs.Names as net_names
use Rattle.net_run.specs.Shapes as shape
use Rattle.net_run.specs.Store as net
use Rattle.net_run.specs.Values as net_value
use Rattle.run_matches.specs.Addresses.{AllMatched, Same, same_root}
use Rattle.run_matches.specs.Agreeing.{Agrees}
use Rattle.run_matches.specs.CoveredVariables.{covers_type}
use Rattle.run_matches.specs.Kinds.{AreKinds}
use Rattle.run_matches.specs.Likeness.{LikeV, like_scalar, SameShape, are_same}
use Rattle.run_matches.specs.Maps.{World, IsMatched, is_auto_root, key_or_none, moved_at}
use Rattle.run_matches.specs.Match.{HeldAs, MemoryMatch, is_class_variable}
use Rattle.run_matches.specs.Pledges.{Later, Pledge}
use Rattle.run_matches.specs.SoundShapes.{IsSoundShape}
use Rattle.run_matches.specs.Upgrades.{Upgrade, is_auto, variable_key}
use Rattle.run_matches.specs.UserTypes.{is_class_type}
use Rattle.run_statements.specs.Frames.{IsMember}
use Rattle.run_statements.specs.Members.{MemberFound, MemberMatch, MembersAreFound}
use Rattle.agreeing_laws.proofs.Agreeing.{agrees_gives, agrees_outside, agrees_raises}
use Rattle.agreeing_laws.proofs.Scalars.{scalar_later}
use Rattle.agreeing_laws.proofs.SoundParts.{all_ranked_sound}
use Rattle.agreeing_laws.proofs.UserShapes.{class_shape, class_written}
use Rattle.memory_laws.proofs.Making.{covered_shape}

-- at a later world it is the same variable, of an object that still matches
pub member_later : (U : Upgrade) (K : Pledge) (w0 w1 : World) (of_class variable : ℕ) (x : source.Parts) (r : net_names.Parts) → Later U K w0 w1
    → MemberMatch U of_class variable w0 x r → MemberMatch U of_class variable w1 x r
member_later U K w0 w1 c v x r l m = record {
  object = m.object;
  stands = m.stands;
  written = m.written;
  net_object = m.net_object;
  key = m.key;
  net_stands = m.net_stands;
  is_key = m.is_key;
  same = m.same;
  like = scalar_later U K w0 w1 (class c) m.object m.net_object l m.like;
}

-- ---- the shape of the variable

module _ (U : Upgrade) (of_class i : ℕ) (ty : Ty) (m : IsMember U of_class i ty) (of : (covers_type ty ≡ true) ⊎ (is_class_type ty ≡ true)) where
  type_is : (bounds : List (ℤ × ℤ)) → (covers_type ty ≡ true) ⊎ (is_class_type ty ≡ true)
      → shape_by (user_shapes U.program.declarations) bounds ty ≡ simple ty
  type_is bounds (inl c) = covered_shape (user_shapes U.program.declarations) bounds ty c
  type_is bounds (inr c) = class_shape (user_shapes U.program.declarations) bounds ty c

  pub member_shape : variable_shape U.program.declarations m.number ≡ simple ty
  member_shape =
      ap (declared_shape (user_shapes U.program.declarations)) m.known.is_variable
      ∙ (ap (shape_by (user_shapes U.program.declarations) m.known.variable.bounds) m.is_type ∙ type_is m.known.variable.bounds of)

  simple_sound : (covers_type ty ≡ true) ⊎ (is_class_type ty ≡ true) → IsSoundShape U (simple ty)
  simple_sound (inl c) = inl c
  simple_sound (inr c) = inr (class_written U ty m.written c (subst (λ s. SameShape U s m.written) member_shape m.same))

  pub member_sound : IsSoundShape U (variable_shape U.program.declarations m.number)
  member_sound = subst (λ s. IsSoundShape U s) (sym member_shape) (simple_sound of)

-- ---- where there is an object

is_of_class : (c : ℕ) (k : Option ℕ) → is_class c k ≡ true → k ≡ Some c
is_of_class c None e = absurd (true≢false (sym e))
is_of_class c (Some d) e = ap (λ n. Some n) (sym (eqb-true c d e))

some_is : (p q : Position) → Some p ≡ Some q → p ≡ q
some_is p q e = cc

module _ (U : Upgrade) (K : Pledge) (w : World) (of_class i : ℕ) (ty : Ty) (m : IsMember U of_class i ty)
    (of : (covers_type ty ≡ true) ⊎ (is_class_type ty ≡ true)) (h : MemoryMatch U w) (d : shape.Shape) (key : Key)
    (is_key : variable_key U m.number ≡ Some key) (sh : SameShape U (variable_shape U.program.declarations m.number) d) where
  abbrev D : Declarations
  D = U.program.declarations

  abbrev there : Shape
  there = variable_shape D m.number

  not_auto : is_auto U m.number ≡ false
  not_auto =
      ap (λ o. is_some (auto_class o)) m.known.is_variable ∙ ap (λ b. is_some (cond b (class_in m.known.variable.ty) None)) m.known.plain

  module _ (o j : ℕ) (is_made : o < w.src.next_object) (goes : w.map.objects o ≡ j) (is : w.src.class_of o ≡ Some of_class) where
    abbrev here : Position
    here = whole (field o (m.number ∷ []))

    abbrev to : net.Address
    to = net.root d (whole (field j key))

    matched : IsMatched U w here
    matched = record { is_made = is_made; counterpart = ap is_some m.is_key; sound = ap not m.known.sound }

    -- each object has the variables of its class
    laid : HeldAs D m.number (is_class_variable D of_class m.known.variable.owner) (field o (m.number ∷ [])) w.src.held → AreKinds there here w.src.held
    laid (inl b) = absurd (true≢false (sym m.in_class ∙ b.1))
    laid (inr k) = k

    kinds : AreKinds there here w.src.held
    kinds = laid (h.stores.fields o of_class m.number m.known.variable is_made is m.known.is_variable m.known.sound)

    all_matched : AllMatched U w there here
    all_matched =
        let shaped : there ≡ simple ty = member_shape U of_class i ty m of in
        subst (λ s. AllMatched U w s here) (sym shaped) (matched, subst (λ s. AreKinds s here w.src.held) shaped kinds)

    moved_is : moved_at U w.map here ≡ whole (field j key)
    moved_is =
        ap (λ n. whole (field n (key_or_none (variable_key U m.number)))) goes ∙ ap (λ k. whole (field j (key_or_none k))) is_key

    same : Same U K w (root there here) to
    same =
        subst (λ p. Same U K w (root there here) (net.root d p)) moved_is
        (same_root there d here sh all_matched (all_ranked_sound U w there d here (member_sound U of_class i ty m of)))

    pub found_there : MemberFound U K m.number w (root there here) to
    found_there = record {
      object = o;
      stands = refl;
      same = same;
      target =
          inl (inr (inr (record {
            object = o;
            variable = m.number;
            key = m.key;
            of_shape = there;
            path = [];
            stands = refl;
            is_key = m.is_key;
            differs = m.differs;
          })));
      plain = λ q e. subst (λ (z : Position). is_auto_root U w.map z.root ≡ false) (some_is here q e) not_auto;
    }

  -- ---- the last check

  -- an object of another class is outside
  object_agrees : (o j : ℕ) → o < w.src.next_object → w.map.objects o ≡ j → (b : Bool) → is_class of_class (w.src.class_of o) ≡ b
      → Agrees U K w (MemberFound U K m.number) (provided b (λ s. gives [] (root there (whole (field o (m.number ∷ [])))) s) w.src)
      (gives [] (net.root d (whole (field j key))) w.net)
  object_agrees o j is_made goes true e =
      agrees_gives U K w (MemberFound U K m.number) (root there (whole (field o (m.number ∷ [])))) (net.root d (whole (field j key))) h
      (found_there o j is_made goes (is_of_class of_class (w.src.class_of o) e))
  object_agrees o j is_made goes false e = agrees_outside U K w (MemberFound U K m.number) (gives [] (net.root d (whole (field j key))) w.net)

  value_agrees : (x : Value6) (y : ValueN) → Matches (are_same w) (class of_class) x y
      → Agrees U K w (MemberFound U K m.number) (source.finished (at_field (scalar (class of_class) x) of_class there m.number) w.src)
      (target.finished (net_names.at_field d (net_value.single y) key) w.net)
  value_agrees _ _ (no_object_of _) = agrees_raises U K w (MemberFound U K m.number) 91 h
  value_agrees _ _ (objects_of _ o j e) =
      let both = both_true (nat_lt o w.src.next_object) (nat_eq (w.map.objects o) j) e in
      object_agrees o j (ltb-true o w.src.next_object both.0) (eqb-true (w.map.objects o) j both.1) (is_class of_class (w.src.class_of o)) refl

  pub member_agrees : (x : Value6) (y : net_value.Value) → LikeV U w (scalar (class of_class) x) y
      → Agrees U K w (MemberFound U K m.number) (source.finished (at_field (scalar (class of_class) x) of_class there m.number) w.src)
      (target.finished (net_names.at_field d y key) w.net)
  member_agrees _ _ (like_scalar _ x y l) = value_agrees x y l

pub members_are_found : (U : Upgrade) → MembersAreFound U
members_are_found U K w c i ty m x r of h f =
    subst (λ p. Agrees U K w (MemberFound U K m.number) (source.finished p w.src) (target.finished r w.net)) (sym f.stands)
    (subst
    (λ p. Agrees U K w (MemberFound U K m.number)
    (source.finished (at_field (scalar (class c) f.object) c (variable_shape U.program.declarations m.number) m.number) w.src) (target.finished p w.net))
    (sym f.net_stands) (member_agrees U K w c i ty m of h f.written f.key f.is_key f.same f.object f.net_object f.like))
