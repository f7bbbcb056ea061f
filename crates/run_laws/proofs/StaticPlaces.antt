-- Where the Statics of a covered procedure stand: in its standard module, or in the object that it is called for, on both sides.
use Rattle.std.proofs.Common.{◌≡◌, ◌⊎◌, inl, inr, ⊎_elim, refl, sym, ap, ◌∙◌, ℕ, Bool, true, false, cond, not, true≢false, Option, Some, None, option_map, List, [], ◌∷◌, ◌++◌}
use Rattle.std.specs.Prelude.{◌||◌, slice_get}
use Rattle.std.specs.List.{list_all}
use Rattle.up_base.proofs.Tests.{both_true, either, not_true}
use Rattle.bound_tree.specs.Tree.{Declarations, Procedure, Variable}
use Rattle.bound_facts.specs.SelfMade.{module_of}
use Rattle.run_base.specs.Positions.{Key, shared}
use Rattle.vb6_run.specs.Runnables.{is_class_file, object_root, static_root}
use Rattle.net_run.specs.Members.{Code, is_same_flag}
use Rattle.net_run.specs.Names.{is_class}
use Rattle.net_run.specs.Program as net_program
use Rattle.net_run.specs.Program.{object_static, static_key}
use Rattle.written_trees.specs.Prologues.{is_static}
use Rattle.run_matches.specs.Covered.{has_no_static, is_class_number}
use Rattle.run_matches.specs.Frames.{HasOwnObject, OwnObject}
use Rattle.run_matches.specs.Maps.{World, key_or_none, moved, moved_key}
use Rattle.run_matches.specs.Pledges.{Later, Pledge}
use Rattle.run_matches.specs.Sites.{Own, Site, own_constant, own_variable, owns_of, static_numbers}
use Rattle.run_matches.specs.Upgrades.{Upgrade, variable_key}
use Rattle.run_statements.specs.Frames.{IsStaticRoot}
use Rattle.agreeing_laws.proofs.Made.{more}
use Rattle.agreeing_laws.proofs.Scalars.{object_later}
use Rattle.name_laws.proofs.Lists.{Among, all_among}
use Rattle.run_laws.specs.Entered.{IsHolder, net_static_in, static_in}

-- where it declares any, it stands in a class by the number of its module as by its place
abbrev pub IsPlacedAlike : Declarations → Procedure → Site → Type 0
IsPlacedAlike D x s = (list_all has_no_static (owns_of D s) ≡ true) ⊎ (is_class_file D x.module_number ≡ s.source_module.class)

same_flag : (a b : Bool) → is_same_flag a b ≡ true → a ≡ b
same_flag true b h = sym h
same_flag false true h = absurd (true≢false (sym h))
same_flag false false h = refl

pub placed_alike : (D : Declarations) (p : ℕ) (x : Procedure) (s : Site) → slice_get D.procs p ≡ Some x
    → (list_all has_no_static (owns_of D s) || is_same_flag (is_class_number D (slice_get D.procs p)) s.source_module.class) ≡ true → IsPlacedAlike D x s
placed_alike D p x s is h =
    ⊎_elim (λ none. inl none)
    (λ same. inr (same_flag (is_class_file D x.module_number) s.source_module.class
    (sym (ap (λ o. is_same_flag (is_class_number D o) s.source_module.class) is) ∙ same)))
    (either (list_all has_no_static (owns_of D s)) (is_same_flag (is_class_number D (slice_get D.procs p)) s.source_module.class) h)

-- ---- the object that has them

-- Where a frame's Statics stand, if its procedure declares any.
pub record HasHolder (U : Upgrade) (w : World) (x : Procedure) (s : Site) (c : Code) (me : Option ℕ) : Type 0 where
  pub holder : Option ℕ
  pub net_holder : Option ℕ
  pub is_holder : IsHolder w holder net_holder
  pub source :
      (list_all has_no_static (owns_of U.program.declarations s) ≡ true)
      ⊎ ((v : ℕ) → static_root U.program.declarations me v (Some x.module_number) ≡ Some (static_in holder v))
  pub target :
      (list_all has_no_static (owns_of U.program.declarations s) ≡ true)
      ⊎ ((i : ℕ) → net_program.static_root U.written c (option_map w.map.objects me) i ≡ Some (net_static_in net_holder (static_key c i)))

pub holder_is : (U : Upgrade) (w : World) (p : ℕ) (x : Procedure) (s : Site) (c : Code) (me : Option ℕ) → slice_get U.program.declarations.procs p ≡ Some x
    → IsPlacedAlike U.program.declarations x s → is_class U.written c.home ≡ s.source_module.class → HasOwnObject U w p me → HasHolder U w x s c me
holder_is U w p x s c me is (inl none) class own =
    record { holder = None; net_holder = None; is_holder = record { object = tt; class = tt; goes = refl }; source = inl none; target = inl none }
holder_is U w p x s c me is (inr same) class own = by (is_class_file U.program.declarations x.module_number) refl
  where
    stands : (b : Bool) → is_class_file U.program.declarations x.module_number ≡ b → (v : ℕ)
        → static_root U.program.declarations me v (Some x.module_number) ≡ cond b (object_root me v) (Some (shared (v ∷ [])))
    stands b e v = ap (λ z. cond z (object_root me v) (Some (shared (v ∷ [])))) e

    net_stands : (b : Bool) → is_class_file U.program.declarations x.module_number ≡ b → (i : ℕ)
        → net_program.static_root U.written c (option_map w.map.objects me) i
        ≡ cond b (object_static (static_key c i) (option_map w.map.objects me)) (Some (shared (static_key c i)))
    net_stands b e i =
        ap (λ z. cond z (object_static (static_key c i) (option_map w.map.objects me)) (Some (shared (static_key c i)))) (class ∙ sym same ∙ e)

    by : (b : Bool) → is_class_file U.program.declarations x.module_number ≡ b → HasHolder U w x s c me
    by false e = record {
      holder = None;
      net_holder = None;
      is_holder = record { object = tt; class = tt; goes = refl };
      source = inr (stands false e);
      target = inr (net_stands false e);
    }
    by true e =
        let o : OwnObject U w x.module_number me = own x.module_number (ap module_of is) e in
        record {
          holder = Some o.object;
          net_holder = Some (w.map.objects o.object);
          is_holder = record { object = o.is_made; class = (o.class, o.is_class); goes = refl };
          source = inr (λ v. stands true e v ∙ ap (λ m. object_root m v) o.is_me);
          target = inr (λ i. net_stands true e i ∙ ap (λ m. object_static (static_key c i) (option_map w.map.objects m)) o.is_me);
        }

-- it stands where it stood
pub holder_later : (U : Upgrade) (K : Pledge) (w u : World) (holder net_holder : Option ℕ) → Later U K w u → IsHolder w holder net_holder
    → IsHolder u holder net_holder
holder_later U K w u None net_holder l h = record { object = tt; class = tt; goes = h.goes }
holder_later U K w u (Some o) net_holder l h = record {
  object = more o w.src.next_object u.src.next_object l.grows.objects h.object;
  class = (h.class.0, l.same_classes o h.object ∙ h.class.1);
  goes = object_later w u (Some o) l.extends h.object ∙ h.goes;
}

pub holder_root : (w : World) (holder net_holder : Option ℕ) (v : ℕ) → IsHolder w holder net_holder → IsStaticRoot w v (static_in holder v)
holder_root w None net_holder v h = inl refl
holder_root w (Some o) net_holder v h = inr (record { object = o; is_made = h.object; class = h.class.0; is_class = h.class.1; stands = refl })

static_moved : (U : Upgrade) (w : World) (holder : Option ℕ) (v : ℕ)
    → moved U w.map (static_in holder v) ≡ net_static_in (option_map w.map.objects holder) (moved_key U (v ∷ []))
static_moved U w None v = refl
static_moved U w (Some o) v = refl

-- a Static goes to its key there
pub holder_goes : (U : Upgrade) (w : World) (holder net_holder : Option ℕ) (v : ℕ) (key : Key) → IsHolder w holder net_holder → variable_key U v ≡ Some key
    → moved U w.map (static_in holder v) ≡ net_static_in net_holder key
holder_goes U w holder net_holder v key h is =
    static_moved U w holder v ∙ ap (λ n. net_static_in n (moved_key U (v ∷ []))) h.goes ∙ ap (λ k. net_static_in net_holder (key_or_none k)) is

-- where none is declared none is
pub if_declared : {A : Type 0} (D : Declarations) (s : Site) → (list_all has_no_static (owns_of D s) ≡ true) ⊎ A → (v : ℕ) (y : Variable)
    → Among (owns_of D s) (own_variable v y) → is_static y.owner ≡ true → A
if_declared D s (inl none) v y m static =
    absurd (true≢false (sym (all_among has_no_static (owns_of D s) (own_variable v y) none m) ∙ ap not static))
if_declared D s (inr a) v y m static = a

-- there are none where no declaration is one
pub none_numbered : (os : List Own) → list_all has_no_static os ≡ true → static_numbers os ≡ []
none_numbered [] h = refl
none_numbered (own_constant c x ∷ os) h = none_numbered os h
none_numbered (own_variable v x ∷ os) h =
    let both = both_true (not (is_static x.owner)) (list_all has_no_static os) h in
    ap (λ t. cond t (v ∷ []) [] ++ static_numbers os) (not_true (is_static x.owner) both.0) ∙ none_numbered os both.1
