-- ReDim and Erase do the same as what is written for them.
use Rattle.std.proofs.Common.{inl, ◌≡◌, ◌∙◌, inr, refl, sym, ap, subst, ℕ, zero, suc, ◌+◌, negsuc, Bool, true, false, cond, not, ◌&&◌, ◌||◌, nat_eq, Option, Some, None, List, [], ◌∷◌, length, map, true≢false, eqb-true, arith}
use Rattle.std.specs.Prelude.{nat_le, replicate}
use Rattle.std.specs.List.{list_all, Contains}
use Rattle.vb_tree.specs.BoundTree as types
use Rattle.vb_tree.specs.BoundTree.{Ty}
use Rattle.vb_tree.specs.declared.declared.VarId.{VarId}
use Rattle.vb_tree.specs.Tree.{Form, ReDimItem}
use Rattle.bound_tree.specs.Tree.{Expr, typed, variable}
use Rattle.bound_facts.proofs.Chains.{both_true}
use Rattle.bound_facts.specs.Effects.{resized_stores}
use Rattle.bound_facts.specs.Node.{declared_at, is_array_type, type_at}
use Rattle.bound_facts.specs.Parts.{Extent, Resize, resized_by, resizes, stores}
use Rattle.vb6_meaning.specs.Answers.{then_answer}
use Rattle.vb6_meaning.specs.Answers as answer
use Rattle.net_tree.specs.Tree as net
use Rattle.net_tree.specs.Types.{TypeName}
use Rattle.net_tree.specs.Types as word
use Rattle.net_meaning.specs.declared.value.ValueN.TheVariants as n
use Rattle.run_base.specs.Outcomes.{Outcome, gives, outside, after, then, answered, some_of}
use Rattle.written_trees.specs.Exprs.{exp_of}
use Rattle.written_trees.specs.Lines.{empty_extents, extents_exps, resized_array}
use Rattle.written_trees.specs.Names.{Scope}
use Rattle.written_trees.specs.Types.{element_type, written_type}
use Rattle.written_trees.specs.Facts.{is_array_variable}
use Rattle.written_trees.specs.Puts as written_puts
use Rattle.vb6_run.specs.Arrays.{erase, resize}
use Rattle.vb6_run.specs.Expressions as source
use Rattle.vb6_run.specs.Expressions.{Context, lows_at}
use Rattle.vb6_run.specs.Forms.{SourceLine}
use Rattle.vb6_run.specs.Lines.{dimensions_of, redim_does}
use Rattle.vb6_run.specs.Runnables.{variable_address}
use Rattle.vb6_run.specs.Shapes.{simple}
use Rattle.vb6_run.specs.Store.{Address, Memory, SourceCalls, SourceFrame}
use Rattle.vb6_run.specs.Values.{Dimension}
use Rattle.net_run.specs.Expressions as target
use Rattle.net_run.specs.Expressions.{array_with, as_reached, parts_by, singles, value_from}
use Rattle.net_run.specs.Lines.{NetFrame, NetLine, assigned, assignment, redim_all, redim_one, redimmed, scope_of}
use Rattle.net_run.specs.Making.{Jobs}
use Rattle.net_run.specs.Members.{Code}
use Rattle.net_run.specs.Names as net_names
use Rattle.net_run.specs.Shapes as shape
use Rattle.net_run.specs.Store as net_store
use Rattle.net_run.specs.Structures.{counts_of}
use Rattle.net_run.specs.Values as net_value
use Rattle.net_run.specs.Values.{single}
use Rattle.row_laws.proofs.Composing.{after_nil, then_assoc}
use Rattle.run_matches.specs.Upgrades.{Upgrade}
use Rattle.run_matches.specs.Maps.{World}
use Rattle.run_matches.specs.Likeness.{SameShape, same_scalar, scalar_word}
use Rattle.run_matches.specs.Likeness as likeness
use Rattle.run_matches.specs.Match.{MemoryMatch}
use Rattle.run_matches.specs.Pledges.{Pledge}
use Rattle.run_matches.specs.Agreeing.{Agrees}
use Rattle.run_matches.specs.Formed.{is_formed}
use Rattle.run_matches.specs.CoveredVariables.{covers_type}
use Rattle.run_matches.specs.CoveredExprs.{Uses, covers_array}
use Rattle.run_matches.specs.CoveredLines.{covers_extent, covers_resize, covers_resizes}
use Rattle.run_matches.specs.Frames.{FrameMatch, OwnsAll}
use Rattle.run_matches.specs.Runs.{CallsAgree}
use Rattle.run_statements.specs.Fitting.{FitsExtent, FitsResize, IsSoundArray, low_in_dimension, rank_of}
use Rattle.run_statements.specs.Frames.{AllCalled, AnyUnits, ArrayMatch, ArraysAgree, AreReadable, ArePlaced, ExpressionsAgree, IsArray, IsOpen, MayChange, context_of, demands}
use Rattle.run_statements.specs.Memory.{ArraysAreErased, ArraysAreResized, MayResize}
use Rattle.run_statements.specs.Written.{Passes}
use Rattle.agreeing_laws.specs.Promises.{Yields}
use Rattle.agreeing_laws.proofs.Agreeing.{agrees_gives, agrees_yields, right_alone, then_agrees}
use Rattle.agreeing_laws.proofs.Lasting.{later_now, later_then}
use Rattle.line_laws.specs.Lasting.{GoOnMatching}
use Rattle.line_laws.proofs.Called.{AllIn}
use Rattle.line_laws.proofs.Elements.{ArrayVariable, array_variable, known_found}
use Rattle.line_laws.proofs.Extents.{AllFit, AllUppers, DimsMatch, all_fit, all_formed, all_mapped, all_of, all_resized, dims_agree}
use Rattle.line_laws.proofs.OwnTargets.{IsOwnTarget, target_changes}
use Rattle.line_laws.proofs.Settled.{IsSettled, known_path, settled}

-- ---- what an erased array is

-- the pledge lets the array of an expression be made anew
abbrev pub IsUnkept : Pledge → Expr → Type 0
IsUnkept K e = (element : Ty) (rank : ℕ) → type_at e ≡ types.array element rank → covers_type element ≡ true → MayResize K element

-- What a line owes to the pledge of its frame: where that is steady it stores to what is its own, it makes no array anew that is
-- kept, and its dimensions suit the array.
pub record MayStore (U : Upgrade) (K : Pledge) (p : ℕ) (f : SourceFrame) (form : Form) (es : List Expr) : Type 0 where
  pub own : (e : Expr) → Contains (stores form es) e → IsOwnTarget U K p f e
  pub unkept : (e : Expr) → Contains (resized_stores form es) e → IsUnkept K e
  pub fits : (r : Resize) → Contains (resized_by form es) r → IsSoundArray U r.array → FitsResize U p r

no_extents : (S : net_names.Scope) (oracle : Jobs) (rank : ℕ) (t : net_store.Memory)
    → target.values_of S oracle (empty_extents rank) t ≡ gives [] (replicate rank (single (n.Integer (negsuc 0)))) t
no_extents S oracle zero t = refl
no_extents S oracle (suc rank) t =
    ap (λ r. after [] (then r (λ ys t. gives [] (single (n.Integer (negsuc 0)) ∷ ys) t))) (no_extents S oracle rank t)

no_singles : (rank : ℕ) → singles (replicate rank (single (n.Integer (negsuc 0)))) ≡ answer.gives (replicate rank (n.Integer (negsuc 0)))
no_singles zero = refl
no_singles (suc rank) = ap (λ a. then_answer a (λ xs. answer.gives (n.Integer (negsuc 0) ∷ xs))) (no_singles rank)

no_counts : (rank : ℕ) → counts_of (replicate rank (n.Integer (negsuc 0))) ≡ answer.gives (replicate rank 0)
no_counts zero = refl
no_counts (suc rank) = ap (λ a. then_answer a (λ cs. answer.gives (0 ∷ cs))) (no_counts rank)

-- the written type of a covered one
abbrev HasScalar : Upgrade → Scope → ℕ → Ty → Type 0
HasScalar U T home ty = (t : TypeName) × (scalar_word ty ≡ Some t) × (shape.shape_of U.written home (written_type T ty) ≡ shape.scalar t)

scalar_written : (U : Upgrade) (T : Scope) (home : ℕ) (ty : Ty) → covers_type ty ≡ true → HasScalar U T home ty
scalar_written U T home types.boolean c = (word.boolean, refl, refl)
scalar_written U T home types.byte c = (word.byte, refl, refl)
scalar_written U T home types.integer c = (word.short, refl, refl)
scalar_written U T home types.long c = (word.integer, refl, refl)
scalar_written U T home types.currency c = (word.decimal, refl, refl)
scalar_written U T home types.str c = (word.str, refl, refl)
scalar_written U T home _ c = absurd (true≢false (sym c))

-- the value of a new array is the array
made_value : (S : net_names.Scope) (oracle : Jobs) (b : Bool) (a : net_store.Array) (s : shape.Shape) (t : net_store.Memory)
    → value_from S oracle (after [] (as_reached (after [] (then (cond b (net_store.new_array a t) (outside [])) (λ v t. gives [] (net_store.constant s v) t)))))
    ≡ cond b (net_store.new_array a t) (outside [])
made_value S oracle true a s t = refl
made_value S oracle false a s t = refl

empty_value : (S : net_names.Scope) (oracle : Jobs) (ty : TypeName) (rank : ℕ) (t : net_store.Memory)
    → target.value_of S oracle (net.new_array ty (empty_extents rank)) t ≡ net_store.array_made (shape.shape_of S.project S.home ty) (replicate rank 0) t
empty_value S oracle ty rank t =
    let d : shape.Shape = shape.shape_of S.project S.home ty in
    let go : List ℕ → net_store.Memory → Outcome net_store.Memory net_store.Address =
    λ counts t. then (net_store.array_made d counts t) (λ v t. gives [] (net_store.constant (shape.array d (length counts)) v) t) in
    ap (λ r. value_from S oracle (then r (λ vs t. as_reached (array_with d vs t)))) (no_extents S oracle rank t)
    ∙ (ap (λ a. value_from S oracle (after [] (as_reached (then (answered (then_answer a counts_of) t) go)))) (no_singles rank)
    ∙ (ap (λ a. value_from S oracle (after [] (as_reached (then (answered a t) go)))) (no_counts rank)
    ∙ made_value S oracle (nat_le (net_store.product (replicate rank 0)) net_store.most_elements)
    (record {
      element = d;
      counts = replicate rank 0;
      elements = replicate (net_store.product (replicate rank 0)) (shape.default_of d);
    }) (shape.array d (length (replicate rank 0))) t))

-- ---- lines

-- an array that a line may make anew
pub record MayRenew (U : Upgrade) (K : Pledge) (p : ℕ) (f : SourceFrame) (a : Expr) : Type 0 where
  pub unkept : IsUnkept K a
  pub own : IsOwnTarget U K p f a

module _ (U : Upgrade) (expressions : ExpressionsAgree U) (arrays : ArraysAgree U) (resizing : ArraysAreResized U) (erasing : ArraysAreErased U) (K : Pledge) (p : ℕ)
    (f : SourceFrame) (g : NetFrame) (l : SourceLine) (k : NetLine) (c : Code) (T : Scope) (declared : T.declarations ≡ U.program.declarations) (oracle : SourceCalls)
    (net_oracle : Jobs) (is_open : IsOpen (scope_of U.written c g k)) (uses : Uses) (readable : AreReadable U T uses)
    (placed : ArePlaced U p f (scope_of U.written c g k) T uses) (agree : CallsAgree U (Passes U) oracle net_oracle) (owns : OwnsAll U K p f) where
  abbrev C : Context
  C = context_of U oracle p f l

  abbrev S : net_names.Scope
  S = scope_of U.written c g k

  abbrev Can : Expr → Type 0
  Can e = AllCalled (demands U K p l k (scope_of U.written c g k) T) e

  -- the variable of an array
  module _ (of : Ty) (rank : ℕ) (v : VarId) (qualified : Bool) (used : uses.array v of ≡ true) (named : uses.named v qualified ≡ true)
      (may : MayRenew U K p f (typed (types.array of rank) (variable v qualified))) where
    abbrev a : Expr
    a = typed (types.array of rank) (variable v qualified)

    abbrev is_array : IsArray U v.0 of
    is_array = readable.arrays v of used

    covers : covers_array uses a ≡ true
    covers = ap (λ b. b && uses.named v qualified) used ∙ named

    free : MayResize K of
    free = may.unkept of rank refl is_array.covers

    abbrev IsFound : Address → Memory → Type 0
    IsFound b s = variable_address U.program.declarations f v.0 ≡ Some b

    found_by : (o : Option Address) (s : Memory) → Yields (λ b s. o ≡ Some b) (some_of o (λ b s. gives [] b s) s)
    found_by None s = tt
    found_by (Some b) s = refl

    found : (s : Memory) → Yields IsFound (source.address_of C a s)
    found s =
        subst (λ r. Yields IsFound r) (sym (known_found U C refl (types.array of rank) v qualified is_array.known s))
        (found_by (variable_address U.program.declarations f v.0) s)

    own_address : (w : World) → FrameMatch U K w p f g → (b : Address) (s : Memory) → IsFound b s → MayChange K b
    own_address w F b s is steady =
        target_changes U K w p f g F owns S T v.0 is_array.known (placed.places v (inr (inl (of, used)))) (may.own steady) b is

    settles : (w : World) → FrameMatch U K w p f g → IsSettled S net_oracle (exp_of T a)
    settles w F =
        subst (λ e. IsSettled S net_oracle e) (sym (known_path U T declared (types.array of rank) v qualified is_array.known))
        (settled U K w p f g k c T declared net_oracle F v.0 qualified (placed.named v qualified named) is_array.known (placed.places v (inr (inl (of, used)))))

    -- the array on both sides, whatever has been evaluated before
    abbrev Standing : World → Address → net_store.Address → Type 0
    Standing w b d = ArrayMatch U K of (rank_of U a) w b d × IsFound b w.src

    address_agrees : (w : World) → MemoryMatch U w → FrameMatch U K w p f g → (x : IsSettled S net_oracle (exp_of T a))
        → Agrees U K w Standing (source.address_of C a w.src) (gives [] x.address w.net)
    address_agrees w h F x =
        subst (λ r. Agrees U K w Standing (source.address_of C a w.src) r)
        (ap (λ r. then (then r (parts_by S net_oracle)) target.finished) (x.leads w.net))
        (agrees_yields U K w (ArrayMatch U K of (rank_of U a)) IsFound (source.address_of C a w.src) (target.address_of S net_oracle (exp_of T a) w.net)
        (found w.src)
        (arrays K w p f g oracle net_oracle l k c T uses of rank (variable v qualified) h F declared readable placed covers))

    low_is_that : (d : ℕ) → T.facts.low v.0 d ≡ low_in_dimension U a d
    low_is_that d = ap (λ F. F.low v.0 d) readable.facts

    -- ---- ReDim

    module _ (preserve : Bool) (xs : List Extent) where
      abbrev source_one : Memory → Outcome Memory Unit
      source_one s =
          then (dimensions_of C xs s) (λ dims s. then (source.address_of C a s) (λ b s. resize f.env (lows_at C a) preserve dims b s))

      abbrev net_one : net_store.Memory → Outcome net_store.Memory Unit
      net_one t = redim_one S net_oracle preserve (record { array = exp_of T a; bounds = extents_exps T (declared_at T.declarations a) 0 xs }) t

      abbrev behind : net_store.Address → List net_value.Value → net_store.Memory → Outcome net_store.Memory Unit
      behind d vs t =
          then (answered (then_answer (singles vs) counts_of) t) (λ counts t. then (gives [] d t) (redimmed preserve counts))

      one_by : (w : World) → MemoryMatch U w → GoOnMatching U K p f g w → (x : IsSettled S net_oracle (exp_of T a)) (dims : List Dimension)
          (vs : List net_value.Value) → DimsMatch (length xs) w dims vs → length xs ≡ rank_of U a → (preserve ≡ true → length xs ≡ 1)
          → Agrees U K w AnyUnits (then (source.address_of C a w.src) (λ b s. resize f.env (lows_at C a) preserve dims b s)) (behind x.address vs w.net)
      one_by w h G x dims vs m ranked one =
          let r : Outcome Memory Unit = then (source.address_of C a w.src) (λ b s. resize f.env (lows_at C a) preserve dims b s) in
          let counts : List ℕ = likeness.counts_of dims in
          subst (λ z. Agrees U K w AnyUnits r (then (answered (then_answer z counts_of) w.net) (λ cs t. then (gives [] x.address t) (redimmed preserve cs))))
          (sym m.2)
          (subst (λ z. Agrees U K w AnyUnits r (then (answered z w.net) (λ cs t. then (gives [] x.address t) (redimmed preserve cs)))) (sym m.3)
          (right_alone U K w AnyUnits r (after [] (redimmed preserve counts x.address w.net))
          (then_agrees U K w Standing AnyUnits (source.address_of C a w.src) (gives [] x.address w.net)
          (λ b s. resize f.env (lows_at C a) preserve dims b s) (λ d t. redimmed preserve counts d t) h (address_agrees w h (G w (later_now U K w h)) x)
          (λ b d w1 i later.
          resizing K w1 of (rank_of U a) b d f.env (lows_at C a) preserve dims is_array.covers later.match i.0 (G w1 later).locks free
          (own_address w1 (G w1 later) b w1.src i.1) (m.0 ∙ ranked) (λ e. m.0 ∙ one e)))))

      one_agrees : (w : World) → MemoryMatch U w → GoOnMatching U K p f g w → AllFit U p a 0 xs → AllUppers Can xs → AllUppers (λ e. is_formed e ≡ true) xs
          → list_all (covers_extent uses) xs ≡ true → length xs ≡ rank_of U a → (preserve ≡ true → length xs ≡ 1)
          → Agrees U K w AnyUnits (source_one w.src) (net_one w.net)
      one_agrees w h G fits can formed covered ranked one =
          let x : IsSettled S net_oracle (exp_of T a) = settles w (G w (later_now U K w h)) in
          let bounds : net.Exps = extents_exps T (Some v.0) 0 xs in
          subst (λ z. Agrees U K w AnyUnits (source_one w.src) (then (then z (parts_by S net_oracle)) (λ ps t. then (target.values_of S net_oracle bounds t) (λ vs t.
          then (answered (then_answer (singles vs) counts_of) t) (λ counts t. then (target.finished ps t) (redimmed preserve counts))))))
          (sym (x.leads w.net))
          (right_alone U K w AnyUnits (source_one w.src) (then (target.values_of S net_oracle bounds w.net) (behind x.address))
          (then_agrees U K w (DimsMatch (length xs)) AnyUnits (dimensions_of C xs w.src) (target.values_of S net_oracle bounds w.net)
          (λ dims s. then (source.address_of C a s) (λ b s. resize f.env (lows_at C a) preserve dims b s)) (behind x.address) h
          (dims_agree U expressions K p f g l k c T declared oracle net_oracle is_open uses readable placed agree a v.0 low_is_that w h G 0 xs fits can formed covered)
          (λ dims vs w1 m later.
          one_by w1 later.match (λ w2 more. G w2 (later_then U K w w1 w2 h later more)) x dims vs m ranked one)))

    -- ---- Erase

    abbrev net_erase : net_store.Memory → Outcome net_store.Memory Unit
    net_erase t = assignment S net_oracle (exp_of T a) (net.new_array (written_type T of) (empty_extents (T.facts.rank v.0))) t

    net_erased : (x : IsSettled S net_oracle (exp_of T a)) (t : net_store.Memory)
        → net_erase t ≡ after [] (then (net_store.array_made (shape.shape_of U.written c.home (written_type T of)) (replicate (T.facts.rank v.0) 0) t)
        (λ y t. net_store.written x.address y t))
    net_erased x t =
        let rest : net_names.Reached → net_store.Memory → Outcome net_store.Memory Unit =
        λ r t. then (target.value_of S net_oracle (net.new_array (written_type T of) (empty_extents (T.facts.rank v.0))) t) (λ y t. assigned S net_oracle r y t) in
        ap (λ r. then r rest) (x.leads t)
        ∙ (ap (λ r. after [] (then r (λ y t. after [] (net_store.written x.address y t)))) (empty_value S net_oracle (written_type T of) (T.facts.rank v.0) t)
        ∙ ap (λ j. after [] (then (net_store.array_made (shape.shape_of U.written c.home (written_type T of)) (replicate (T.facts.rank v.0) 0) t) j))
        (λ i y t. after_nil (net_store.written x.address y t) i))

    erase_one : (w : World) → MemoryMatch U w → GoOnMatching U K p f g w
        → Agrees U K w AnyUnits (then (source.address_of C a w.src) (erase f.env)) (net_erase w.net)
    erase_one w h G =
        let F : FrameMatch U K w p f g = G w (later_now U K w h) in
        let x : IsSettled S net_oracle (exp_of T a) = settles w F in
        let d : shape.Shape = shape.shape_of U.written c.home (written_type T of) in
        let t : HasScalar U T c.home of = scalar_written U T c.home of is_array.covers in
        let same : SameShape U (simple of) d = subst (λ z. SameShape U (simple of) z) (sym t.2) (same_scalar of t.0 t.1) in
        let into : ℕ → net_store.Address → net_store.Memory → Outcome net_store.Memory Unit =
        λ r b s. then (net_store.array_made d (replicate r 0) s) (λ y s. net_store.written b y s) in
        subst (λ z. Agrees U K w AnyUnits (then (source.address_of C a w.src) (erase f.env)) z) (sym (net_erased x w.net))
        (subst (λ r. Agrees U K w AnyUnits (then (source.address_of C a w.src) (erase f.env)) (after [] (into r x.address w.net)))
        (sym (ap (λ F. F.rank v.0) readable.facts))
        (then_agrees U K w Standing AnyUnits (source.address_of C a w.src) (gives [] x.address w.net) (erase f.env) (into (U.facts.rank v.0)) h
        (address_agrees w h F x)
        (λ b y w1 i later.
        erasing K w1 of (rank_of U a) b y f.env d is_array.covers later.match i.0 (G w1 later).locks free
        (own_address w1 (G w1 later) b w1.src i.1) same)))

  -- ---- by an expression

  abbrev source_of : (preserve : Bool) → Expr → List Extent → Memory → Outcome Memory Unit
  source_of preserve e xs s =
      then (dimensions_of C xs s) (λ dims s. then (source.address_of C e s) (λ b s. resize f.env (lows_at C e) preserve dims b s))

  abbrev net_of : (preserve : Bool) → Expr → List Extent → net_store.Memory → Outcome net_store.Memory Unit
  net_of preserve e xs t =
      redim_one S net_oracle preserve (record { array = exp_of T e; bounds = extents_exps T (declared_at T.declarations e) 0 xs }) t

  sound_array : (e : Expr) → covers_array uses e ≡ true → IsSoundArray U e
  sound_array e h =
      let x : ArrayVariable uses e = array_variable uses e h in
      let r : IsArray U x.number.0 x.of = readable.arrays x.number x.of x.used in
      subst (λ z. IsSoundArray U z) (sym x.is) (record {
        variable = x.number.0;
        declares = refl;
        is_array = ap is_array_variable r.known.is_variable ∙ ap is_array_type r.is_array;
        sound = r.known.sound;
      })

  renews : (w : World) → MemoryMatch U w → GoOnMatching U K p f g w → (preserve : Bool) (e : Expr) (xs : List Extent) → covers_array uses e ≡ true
      → MayRenew U K p f e → AllFit U p e 0 xs → AllUppers Can xs → AllUppers (λ e. is_formed e ≡ true) xs → list_all (covers_extent uses) xs ≡ true
      → length xs ≡ rank_of U e → (preserve ≡ true → length xs ≡ 1) → Agrees U K w AnyUnits (source_of preserve e xs w.src) (net_of preserve e xs w.net)
  renews w h G preserve e xs array may fits can formed covered ranked one =
      let x : ArrayVariable uses e = array_variable uses e array in
      subst (λ z. Agrees U K w AnyUnits (source_of preserve z xs w.src) (net_of preserve z xs w.net)) (sym x.is)
      (one_agrees x.of x.rank x.number x.qualified x.used x.named (subst (λ z. MayRenew U K p f z) x.is may) preserve xs w h G
      (subst (λ z. AllFit U p z 0 xs) x.is fits) can formed covered (subst (λ z. length xs ≡ rank_of U z) x.is ranked) one)

  -- ---- all arrays of a line

  redim_is : (preserve : Bool) (r : Resize) (rs : List Resize) (s : Memory)
      → redim_does C preserve (r ∷ rs) s ≡ then (source_of preserve r.array r.extents s) (λ u s. redim_does C preserve rs s)
  redim_is preserve r rs s =
      sym (then_assoc (dimensions_of C r.extents s)
      (λ dims s. then (source.address_of C r.array s) (λ b s. resize f.env (lows_at C r.array) preserve dims b s)) (λ u s. redim_does C preserve rs s)
      ∙ ap (λ m. then (dimensions_of C r.extents s) m)
      (λ i dims s. then_assoc (source.address_of C r.array s) (λ b s. resize f.env (lows_at C r.array) preserve dims b s) (λ u s. redim_does C preserve rs s) i))

  redims_agree : (w : World) → MemoryMatch U w → GoOnMatching U K p f g w → (preserve : Bool) (rs : List Resize) → covers_resizes uses preserve rs ≡ true
      → AllIn (λ (r : Resize). IsSoundArray U r.array → FitsResize U p r) rs → AllIn (λ (r : Resize). MayRenew U K p f r.array) rs
      → AllIn (λ (r : Resize). AllUppers Can r.extents) rs → AllIn (λ (r : Resize). AllUppers (λ e. is_formed e ≡ true) r.extents) rs
      → Agrees U K w AnyUnits (redim_does C preserve rs w.src) (redim_all S net_oracle preserve (map (resized_array T) rs) w.net)
  redims_agree w h G preserve [] covers fits may can formed = agrees_gives U K w AnyUnits tt tt h tt
  redims_agree w h G preserve (r ∷ rs) covers fits may can formed =
      let xs : List Extent = r.extents in
      let both : (covers_resize uses preserve r ≡ true) × (covers_resizes uses preserve rs ≡ true) =
      both_true (covers_resize uses preserve r) (covers_resizes uses preserve rs) covers in
      let first : (covers_array uses r.array ≡ true) × ((list_all (covers_extent uses) xs && (not preserve || nat_eq (length xs) 1)) ≡ true) =
      both_true (covers_array uses r.array) (list_all (covers_extent uses) xs && (not preserve || nat_eq (length xs) 1)) both.0 in
      let second : (list_all (covers_extent uses) xs ≡ true) × ((not preserve || nat_eq (length xs) 1) ≡ true) =
      both_true (list_all (covers_extent uses) xs) (not preserve || nat_eq (length xs) 1) first.1 in
      let fit : FitsResize U p r = fits.0 (sound_array r.array first.0) in
      subst (λ z. Agrees U K w AnyUnits z (redim_all S net_oracle preserve (map (resized_array T) (r ∷ rs)) w.net)) (sym (redim_is preserve r rs w.src))
      (then_agrees U K w AnyUnits AnyUnits (source_of preserve r.array xs w.src) (net_of preserve r.array xs w.net) (λ u s. redim_does C preserve rs s)
      (λ u t. redim_all S net_oracle preserve (map (resized_array T) rs) t) h
      (renews w h G preserve r.array xs first.0 may.0
      (all_fit U p r.array 0 xs (λ i x e. let same : i ≡ i + 0 = omega arith in subst (λ j. FitsExtent U p r.array j x) same (fit.extents i x e)))
      can.0 formed.0 second.0 fit.rank
      (λ e. eqb-true (length xs) 1 (subst (λ b. (not b || nat_eq (length xs) 1) ≡ true) e second.1)))
      (λ u v w1 m later.
      redims_agree w1 later.match (λ w2 more. G w2 (later_then U K w w1 w2 h later more)) preserve rs both.1 fits.1 may.1 can.1 formed.1))

  -- a ReDim
  pub redim_agrees : (w : World) → MemoryMatch U w → GoOnMatching U K p f g w → (preserve : Bool) (items : List ReDimItem) (es : List Expr) → AllIn Can es
      → list_all is_formed es ≡ true → covers_resizes uses preserve (resizes items es) ≡ true
      → ((r : Resize) → Contains (resizes items es) r → IsSoundArray U r.array → FitsResize U p r)
      → ((e : Expr) → Contains (map (λ (r : Resize). r.array) (resizes items es)) e → MayRenew U K p f e)
      → Agrees U K w AnyUnits (redim_does C preserve (resizes items es) w.src)
      (redim_all S net_oracle preserve (map (resized_array T) (resizes items es)) w.net)
  redim_agrees w h G preserve items es can formed covers fits may =
      redims_agree w h G preserve (resizes items es) covers (all_of (λ (r : Resize). IsSoundArray U r.array → FitsResize U p r) (resizes items es) fits)
      (all_mapped (λ e. MayRenew U K p f e) (λ (r : Resize). r.array) (resizes items es)
      (all_of (λ e. MayRenew U K p f e) (map (λ (r : Resize). r.array) (resizes items es)) may))
      (all_resized Can items es can) (all_resized (λ e. is_formed e ≡ true) items es (all_formed es formed))

  -- an Erase
  pub erase_agrees : (w : World) → MemoryMatch U w → GoOnMatching U K p f g w → (e : Expr) → covers_array uses e ≡ true → MayRenew U K p f e
      → Agrees U K w AnyUnits (then (source.address_of C e w.src) (erase f.env))
      (assignment S net_oracle (exp_of T e)
      (net.new_array (written_type T (element_type (type_at e))) (empty_extents (written_puts.rank_of T.facts (declared_at T.declarations e)))) w.net)
  erase_agrees w h G e array may =
      let x : ArrayVariable uses e = array_variable uses e array in
      subst (λ z. Agrees U K w AnyUnits (then (source.address_of C z w.src) (erase f.env))
      (assignment S net_oracle (exp_of T z)
      (net.new_array (written_type T (element_type (type_at z))) (empty_extents (written_puts.rank_of T.facts (declared_at T.declarations z)))) w.net)) (sym x.is)
      (erase_one x.of x.rank x.number x.qualified x.used x.named (subst (λ z. MayRenew U K p f z) x.is may) w h G)
