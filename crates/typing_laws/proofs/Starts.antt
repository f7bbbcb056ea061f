-- A program starts in a memory in which the variables of its standard modules have values of their types.
use Rattle.std.proofs.Common.{◌≡◌, inl, refl, sym, ap, ◌∙◌, subst, ℕ, suc, Bool, true, false, ◌||◌, nat_eq, true≢false, List, [], ◌∷◌, Some, eqb-true, eq-eqb}
use Rattle.std.specs.Prelude.{slice_get}
use Rattle.std.specs.List.{list_any}
use Rattle.up_base.proofs.Tests.{neither}
use Rattle.vb_tree.specs.declared.declared.Owner.{Owner}
use Rattle.vb_tree.specs.declared.declared.Owner.TheVariants as owner
use Rattle.bound_tree.specs.Tree.{Declarations, Variable}
use Rattle.run_base.specs.Outcomes.{Output, Outcome, gives, raises, spent, outside, after, then}
use Rattle.run_base.specs.Positions.{Root, shared, made, field}
use Rattle.vb6_run.specs.Programs.{empty_memory, is_module_variable, lay_module_variables, owned_from}
use Rattle.vb6_run.specs.Shapes.{variable_shape}
use Rattle.vb6_run.specs.Store.{Memory, blank, laid, provided}
use Rattle.vb6_run.specs.Values.{is_makeable}
use Rattle.run_matches.specs.Typed.{EndsIn}
use Rattle.typing_laws.specs.Flat.{is_flat}
use Rattle.typing_laws.specs.Plain.{Holds}
use Rattle.typing_laws.specs.Frames.{Fills, Ground, IsSound, anywhere, ground, is_static, shared_place}
use Rattle.typing_laws.proofs.Owned.{OwnedAt, owned_at, owned_of}
use Rattle.typing_laws.proofs.Laid.{laid_apart, laid_fills, root_apart}
use Rattle.typing_laws.proofs.Places.{at, fills_by, some_is}

-- ---- one variable after another

abbrev number_at : Root → ℕ
number_at (shared []) = 0
number_at (shared (n ∷ more)) = suc n
number_at (made n) = 0
number_at (field o key) = 0

apart_by : (j k : ℕ) → nat_eq k j ≡ false → (shared_place j).root ≡ (shared_place k).root → ⊥
apart_by j k e same =
    let n : suc j ≡ suc k = ap number_at same in
    let i : j ≡ k = cc n in
    true≢false (sym (eq-eqb k j (sym i)) ∙ e)

ends_after : (P : Memory → Type 0) (o : List Output) (r : Outcome Memory Unit) → EndsIn P r → EndsIn P (after o r)
ends_after P o (gives p x w) h = h
ends_after P o (raises p n w) h = h
ends_after P o (spent p w) h = h
ends_after P o (outside p) h = h

module _ (D : Declarations) where
  abbrev K : Ground
  K = ground D anywhere

  -- the rest follows where a variable is laid
  behind_one : (P : Memory → Type 0) (j : ℕ) (ks : List ℕ) (w : Memory)
      → (is_makeable (variable_shape D j) ≡ true → EndsIn P (lay_module_variables D ks (laid (variable_shape D j) (shared_place j) w)))
      → EndsIn P (lay_module_variables D (j ∷ ks) w)
  behind_one P j ks w h = by (is_makeable (variable_shape D j)) refl
    where
      by : (b : Bool) → is_makeable (variable_shape D j) ≡ b
          → EndsIn P (then (provided b (λ w. gives [] (tt {0}) (laid (variable_shape D j) (shared_place j) w)) w) (λ (u : Unit {0}) w. lay_module_variables D ks w))
      by true e = ends_after P [] (lay_module_variables D ks (laid (variable_shape D j) (shared_place j) w)) (h e)
      by false e = tt

  module _ (k : ℕ) (x : Variable) (is : slice_get D.vars k ≡ Some x) (c : is_flat D x ≡ true) where
    abbrev Here : Memory → Type 0
    Here w = Fills K w (shared_place k) x.ty (variable_shape D k)

    laid_here : (w : Memory) → is_makeable (variable_shape D k) ≡ true → Here (laid (variable_shape D k) (shared_place k) w)
    laid_here w m = laid_fills K k x is c m (shared (k ∷ [])) w tt refl (λ user path. refl)

    still_here : (j : ℕ) (w : Memory) → nat_eq k j ≡ false → Here w → Here (laid (variable_shape D j) (shared_place j) w)
    still_here j w e f =
        fills_by K K w (laid (variable_shape D j) (shared_place j) w) (shared_place k)
        (λ path ty z. record {
          holds =
              subst (λ h. Holds ty h)
              (sym (laid_apart (variable_shape D j) (shared_place j) (at (shared (k ∷ [])) path) w (root_apart (shared_place j) (at (shared (k ∷ [])) path) (apart_by j k e))))
              z.holds;
          made = tt;
          allowed = refl;
        }) x.ty (variable_shape D k) f

    -- the variable itself, which may be laid again
    laid_as : (j : ℕ) (w : Memory) → nat_eq k j ≡ true → is_makeable (variable_shape D j) ≡ true → Here (laid (variable_shape D j) (shared_place j) w)
    laid_as j w e m =
        let same : j ≡ k = sym (eqb-true k j e) in
        subst (λ n. Here (laid (variable_shape D n) (shared_place n) w)) (sym same) (laid_here w (subst (λ n. is_makeable (variable_shape D n) ≡ true) same m))

    stays_here : (ks : List ℕ) (w : Memory) → Here w → EndsIn Here (lay_module_variables D ks w)
    stays_here [] w s = s
    stays_here (j ∷ ks) w s = behind_one Here j ks w (λ m. stays_here ks (laid (variable_shape D j) (shared_place j) w) (by (nat_eq k j) refl m))
      where
        by : (b : Bool) → nat_eq k j ≡ b → is_makeable (variable_shape D j) ≡ true → Here (laid (variable_shape D j) (shared_place j) w)
        by true e m = laid_as j w e m
        by false e m = still_here j w e s

    made_here : (ks : List ℕ) (w : Memory) → list_any (nat_eq k) ks ≡ true → EndsIn Here (lay_module_variables D ks w)
    made_here [] w h = absurd (true≢false (sym h))
    made_here (j ∷ ks) w h =
        behind_one Here j ks w (λ m. by (nat_eq k j) refl m h (λ i. made_here ks (laid (variable_shape D j) (shared_place j) w) i))
      where
        by : (b : Bool) → nat_eq k j ≡ b → is_makeable (variable_shape D j) ≡ true → b || list_any (nat_eq k) ks ≡ true
            → (list_any (nat_eq k) ks ≡ true → EndsIn Here (lay_module_variables D ks (laid (variable_shape D j) (shared_place j) w)))
            → EndsIn Here (lay_module_variables D ks (laid (variable_shape D j) (shared_place j) w))
        by true e m h more = stays_here ks (laid (variable_shape D j) (shared_place j) w) (laid_as j w e m)
        by false e m h more = more h

  -- what isn't laid is blank
  abbrev IsBlank : ℕ → Memory → Type 0
  IsBlank k w = (path : List ℕ) → w.held (at (shared (k ∷ [])) path) ≡ blank

  stays_blank : (k : ℕ) (ks : List ℕ) (w : Memory) → list_any (nat_eq k) ks ≡ false → IsBlank k w → EndsIn (IsBlank k) (lay_module_variables D ks w)
  stays_blank k [] w h b = b
  stays_blank k (j ∷ ks) w h b =
      let both = neither (nat_eq k j) (list_any (nat_eq k) ks) h in
      behind_one (IsBlank k) j ks w
      (λ m. stays_blank k ks (laid (variable_shape D j) (shared_place j) w) both.1
      (λ path.
      laid_apart (variable_shape D j) (shared_place j) (at (shared (k ∷ [])) path) w (root_apart (shared_place j) (at (shared (k ∷ [])) path) (apart_by j k both.0))
      ∙ b path))

  -- ---- the start

  abbrev module_variables : List ℕ
  module_variables = owned_from (is_module_variable D) 0 D.vars

  not_module : (o : Owner) → is_static o ≡ true → is_module_variable D o ≡ true → ⊥
  not_module (owner.Static p) h i = true≢false (sym i)
  not_module (owner.Module p) h i = true≢false (sym h)
  not_module (owner.Local p) h i = true≢false (sym h)
  not_module (owner.Value p) h i = true≢false (sym h)
  not_module (owner.Reference p) h i = true≢false (sym h)
  not_module (owner.Answer p) h i = true≢false (sym h)
  not_module (owner.Field p) h i = true≢false (sym h)

  static_unlaid : (k : ℕ) (x : Variable) → slice_get D.vars k ≡ Some x → is_static x.owner ≡ true → list_any (nat_eq k) module_variables ≡ false
  static_unlaid k x is st = by (list_any (nat_eq k) module_variables) refl
    where
      by : (b : Bool) → list_any (nat_eq k) module_variables ≡ b → b ≡ false
      by false e = refl
      by true e =
          let o : OwnedAt (is_module_variable D) D k = owned_of (is_module_variable D) D k e in
          let same : o.variable ≡ x = some_is (sym o.is_variable ∙ is) in
          absurd (not_module x.owner st (sym (ap (λ (z : Variable). is_module_variable D z.owner) same) ∙ o.passes))

  ended : (P : Memory → Type 0) (o : List Output) (r : Outcome Memory Unit) (w : Memory) → r ≡ gives o tt w → EndsIn P r → P w
  ended P o r w e h = subst (λ z. EndsIn P z) e h

  pub start_is_sound : (o : List Output) (w : Memory) → lay_module_variables D module_variables empty_memory ≡ gives o tt w → IsSound K w
  start_is_sound o w e = record {
    modules = λ v x is m c.
        ended (λ u. Fills K u (shared_place v) x.ty (variable_shape D v)) o (lay_module_variables D module_variables empty_memory) w e
        (made_here v x is c module_variables empty_memory (owned_at (is_module_variable D) D v x is m));
    statics = λ v x is st c.
        let blank_there = ended (IsBlank v) o (lay_module_variables D module_variables empty_memory) w e
        (stays_blank v module_variables empty_memory (static_unlaid v x is st) (λ path. refl)) in
        inl (record { whole = blank_there []; parts = λ user path. blank_there path });
    shares = λ v. refl;
    fresh = λ n l. refl;
    shared_parts = λ v x is user path. refl;
    fresh_parts = λ v x is user n path l. refl;
  }
