-- What an entry makes: the result variable, locals and Statics, each with what it begins with.
use Rattle.std.proofs.Common.{◌≡◌, inl, inr, refl, sym, ap, subst, ◌∙◌, ℕ, ◌≤◌, Bool, true, false, cond, not, ◌||◌, nat_eq, List, [], ◌∷◌, Option, Some, eqb-true, eq-eqb, true≢false, arith}
use Rattle.std.specs.Prelude.{slice_get}
use Rattle.std.specs.List.{list_any}
use Rattle.up_base.proofs.Tests.{not_true}
use Rattle.vb_tree.specs.BoundTree.{Ty}
use Rattle.bound_tree.specs.Tree.{Variable, Declarations, Program}
use Rattle.run_base.specs.Outcomes.{Outcome, gives, raises, spent, outside, then, some_of}
use Rattle.run_base.specs.Positions.{Root, shared, whole}
use Rattle.vb6_run.specs.Programs.{lay_if_blank, lay_statics, made_each}
use Rattle.vb6_run.specs.Runnables.{is_class_file, object_root, static_root}
use Rattle.vb6_run.specs.Shapes.{Shape, variable_shape}
use Rattle.vb6_run.specs.Store.{Held, Memory, laid, make, provided}
use Rattle.vb6_run.specs.Values.{is_makeable}
use Rattle.run_matches.specs.CoveredVariables.{belongs_to}
use Rattle.typing_laws.specs.Flat.{is_flat}
use Rattle.run_matches.specs.UserTypes.{is_user}
use Rattle.typing_laws.specs.Frames.{Fills, Footprint, Ground, IsPlace, IsSound, MayStand, ground, is_static, shared_place}
use Rattle.typing_laws.specs.Plain.{Holds, holds_array, holds_parts, holds_scalar}
use Rattle.typing_laws.proofs.Addresses.{place_later}
use Rattle.typing_laws.proofs.Bindings.{Bound, bound_more, made_ends, no_bound}
use Rattle.typing_laws.proofs.Ends.{Ends, fills_later, keeps_self, sound_later, then_ends}
use Rattle.typing_laws.proofs.Laid.{keeps_static, static_fills}
use Rattle.typing_laws.proofs.Owned.{either_any}
use Rattle.typing_laws.proofs.Places.{some_is}

self_le : (n : ℕ) → n ≤ n
self_le n = omega arith

pub first_in : (k : ℕ) (ks : List ℕ) → list_any (nat_eq k) (k ∷ ks) ≡ true
first_in k ks = ap (λ b. b || list_any (nat_eq k) ks) (eq-eqb k k refl)

-- variables of a procedure, of which each is flat
abbrev pub AreCovered : Declarations → (procedure : ℕ) → List ℕ → Type 0
AreCovered D p ks =
    (k : ℕ) → list_any (nat_eq k) ks ≡ true → (x : Variable) × (slice_get D.vars k ≡ Some x) × (is_flat D x ≡ true) × (belongs_to p x.owner ≡ true)

-- an array past the limits
abbrev pub TooLarge : Declarations → (procedure : ℕ) → Type 0 → Type 0
TooLarge D p E =
    (k : ℕ) (x : Variable) → slice_get D.vars k ≡ Some x → belongs_to p x.owner ≡ true → is_makeable (variable_shape D k) ≡ false → E

module _ (P : Program) (F : Footprint) (p : ℕ) (E : Type 0) (out : TooLarge P.declarations p E) where
  abbrev K : Ground
  K = ground P.declarations F

  -- ---- the result variable and the locals

  pub made_each_ends : (ks : List ℕ) (w : Memory) → IsSound K w → AreCovered K.declarations p ks → Ends K (λ u bs. Bound P F u ks bs) E w (made_each K.declarations ks w)
  made_each_ends [] w sound c = (keeps_self K w, no_bound P F w)
  made_each_ends (k ∷ ks) w sound c =
      let y = c k (first_in k ks) in
      then_ends K (λ u a. IsPlace P F u k y.0 a) (λ u bs. Bound P F u (k ∷ ks) bs) E w (make (variable_shape K.declarations k) w)
      (λ a u. then (made_each K.declarations ks u) (λ rest m. gives [] ((k, a) ∷ rest) m))
      (made_ends P F E k y.0 w (sound.fresh w.next (self_le w.next)) (λ user path. sound.fresh_parts k y.0 y.1 user w.next path (self_le w.next)) y.1 y.2
      (out k y.0 y.1 y.3))
      (λ o a u one l there.
      then_ends K (λ m bs. Bound P F m ks bs) (λ u bs. Bound P F u (k ∷ ks) bs) E u (made_each K.declarations ks u) (λ rest m. gives [] ((k, a) ∷ rest) m)
      (made_each_ends ks u (sound_later K w u l sound) (λ j h. c j (either_any (nat_eq j k) (list_any (nat_eq j) ks) h)))
      (λ o2 rest m two n b. (keeps_self K m, bound_more P F m k y.0 ks a rest y.1 (place_later P F u m k y.0 a n there) b)))

  -- ---- Statics

  abbrev pub AllStand : Memory → List ℕ → Type 0
  AllStand w ks =
      (k : ℕ) (x : Variable) → list_any (nat_eq k) ks ≡ true → slice_get K.declarations.vars k ≡ Some x → is_flat K.declarations x ≡ true
      → Fills K w (shared_place k) x.ty (variable_shape K.declarations k)

  -- the Statics of a procedure
  abbrev pub AreStatic : List ℕ → Type 0
  AreStatic ks =
      (k : ℕ) → list_any (nat_eq k) ks ≡ true
      → (x : Variable) × (slice_get K.declarations.vars k ≡ Some x) × (is_flat K.declarations x ≡ true) × (is_static x.owner ≡ true) × (belongs_to p x.owner ≡ true)

  abbrev StandsThere : ℕ → Ty → Memory → Unit {0} → Type 0
  StandsThere k ty u z = Fills K u (shared_place k) ty (variable_shape K.declarations k)

  not_laid : (s : Shape) (r : Root) (ty : Ty) (h : Held) (w : Memory) → Holds ty h → lay_if_blank s r h w ≡ gives [] tt w
  not_laid s r _ _ w (holds_scalar ty z p) = refl
  not_laid s r _ _ w (holds_array e rank dims xs c n p) = refl
  not_laid s r _ _ w (holds_parts t) = refl

  laid_ends : (w : Memory) (k : ℕ) (x : Variable) → slice_get K.declarations.vars k ≡ Some x → is_static x.owner ≡ true → belongs_to p x.owner ≡ true → IsSound K w
      → is_flat K.declarations x ≡ true → MayStand K w k x
      → Ends K (StandsThere k x.ty) E w (lay_if_blank (variable_shape K.declarations k) (shared (k ∷ [])) (w.held (shared_place k)) w)
  laid_ends w k x is st own sound flat (inr f) =
      subst (λ r. Ends K (StandsThere k x.ty) E w r) (sym (not_laid (variable_shape K.declarations k) (shared (k ∷ [])) x.ty (w.held (shared_place k)) w f.0.holds)) (keeps_self K w, f)
  laid_ends w k x is st own sound flat (inl n) =
      subst (λ h. Ends K (StandsThere k x.ty) E w (lay_if_blank (variable_shape K.declarations k) (shared (k ∷ [])) h w)) (sym n.whole) (by (is_makeable s) refl)
    where
      s : Shape
      s = variable_shape K.declarations k

      by : (b : Bool) → is_makeable s ≡ b → Ends K (StandsThere k x.ty) E w (provided b (λ w. gives [] (tt {0}) (laid s (shared_place k) w)) w)
      by false e = out k x is own e
      by true m =
          let allowed = sound.shares k in
          let parts_allowed = λ (user : is_user x.ty ≡ true) (path : List ℕ). sound.shared_parts k x is user path in
          (keeps_static K w k x is st flat m allowed parts_allowed n, static_fills K w k x is st flat m allowed parts_allowed n)

  one_more : (k : ℕ) (x : Variable) → slice_get K.declarations.vars k ≡ Some x → (ks : List ℕ) (u : Memory) → StandsThere k x.ty u tt → (r : Outcome Memory Unit)
      → Ends K (λ m z. AllStand m ks) E u r → Ends K (λ m z. AllStand m (k ∷ ks)) E u r
  one_more k x is ks u there (raises o n m) h = h
  one_more k x is ks u there (spent o m) h = h
  one_more k x is ks u there (outside o) h = h
  one_more k x is ks u there (gives o z m) h = (h.0, λ j y any at c. by j y any at c (nat_eq j k) refl)
    where
      by : (j : ℕ) (y : Variable) → list_any (nat_eq j) (k ∷ ks) ≡ true → slice_get K.declarations.vars j ≡ Some y → is_flat K.declarations y ≡ true → (b : Bool) → nat_eq j k ≡ b
          → StandsThere j y.ty m tt
      by j y any at c true e =
          let same : k ≡ j = sym (eqb-true j k e) in
          let one : x ≡ y = some_is (sym is ∙ ap (λ n. slice_get K.declarations.vars n) same ∙ at) in
          subst (λ n. StandsThere n y.ty m tt) same
          (subst (λ (v : Variable). StandsThere k v.ty m tt) one (fills_later K u m h.0 (shared_place k) x.ty (variable_shape K.declarations k) there))
      by j y any at c false e = h.1 j y (sym (ap (λ b. b || list_any (nat_eq j) ks) e) ∙ any) at c

  pub statics_end : (me : Option ℕ) (file : ℕ) → not (is_class_file K.declarations file) ≡ true → (ks : List ℕ) (w : Memory) → IsSound K w → AreStatic ks
      → Ends K (λ u z. AllStand u ks) E w (lay_statics K.declarations me (Some file) ks w)
  statics_end me file outer [] w sound c = (keeps_self K w, λ k x h. absurd (true≢false (sym h)))
  statics_end me file outer (k ∷ ks) w sound c =
      let y = c k (first_in k ks) in
      let x : Variable = y.0 in
      let at : static_root K.declarations me k (Some file) ≡ Some (shared (k ∷ [])) =
      ap (λ b. cond b (object_root me k) (Some (shared (k ∷ [])))) (not_true (is_class_file K.declarations file) outer) in
      then_ends K (StandsThere k x.ty) (λ u z. AllStand u (k ∷ ks)) E w
      (some_of (static_root K.declarations me k (Some file)) (λ r w. lay_if_blank (variable_shape K.declarations k) r (w.held (whole r)) w) w) (λ u w. lay_statics K.declarations me (Some file) ks w)
      (subst (λ o. Ends K (StandsThere k x.ty) E w (some_of o (λ r w. lay_if_blank (variable_shape K.declarations k) r (w.held (whole r)) w) w)) (sym at)
      (laid_ends w k x y.1 y.3 y.4 sound y.2 (sound.statics k x y.1 y.3 y.2)))
      (λ o z u one l there.
      one_more k x y.1 ks u there (lay_statics K.declarations me (Some file) ks u)
      (statics_end me file outer ks u (sound_later K w u l sound) (λ j h. c j (either_any (nat_eq j k) (list_any (nat_eq j) ks) h))))
