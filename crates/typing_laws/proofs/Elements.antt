-- Elements of arrays, where their indexes have values: each is found at its place, or the index raises an error, or the run leaves.
use Rattle.std.proofs.Common.{◌≡◌, refl, sym, ap, ◌∙◌, subst, ℕ, ℤ, Bool, true, false, ◌&&◌, List, [], Option, Some, None}
use Rattle.vb_tree.specs.BoundTree as types
use Rattle.vb_tree.specs.BoundTree.{Ty}
use Rattle.vb_tree.specs.declared.declared.VarId.{VarId}
use Rattle.bound_tree.specs.Tree.{Expr, Exprs, element, no_exprs, next_expr, typed, variable}
use Rattle.row_laws.proofs.Composing.{then_assoc}
use Rattle.run_base.specs.Outcomes.{Output, Outcome, after, gives, then}
use Rattle.run_base.specs.Positions.{Position}
use Rattle.vb6_run.specs.Arrays.{element_place, has_lows, have_long_lows, item_if, takes_indexes, with_held_array}
use Rattle.vb6_run.specs.Expressions.{Context, Parts, address_of, as_new, at_element, declared, element_parts, finished, indexes_of, lows_at, term_parts}
use Rattle.vb6_run.specs.Shapes.{array, simple}
use Rattle.vb6_run.specs.Store.{Address, Memory, item, item_in, provided, root}
use Rattle.vb6_run.specs.Values.{Dimension, Value, value_at}
use Rattle.typing_laws.specs.Calls.{SourceJob}
use Rattle.typing_laws.specs.Frames.{Footprint, Ground, Stands, ground}
use Rattle.typing_laws.specs.Leaving.{ExprsLeave, Leaves, in_indexes, low_past_long, other_lows, other_rank}
use Rattle.typing_laws.proofs.Addresses.{and_then_self}
use Rattle.typing_laws.proofs.Arrays.{HasArray, array_address, array_later, array_place, named_at, table_at}
use Rattle.typing_laws.proofs.Ends.{Ends, ends_after, ends_as, ends_weaker, keeps_self, then_ends}
use Rattle.typing_laws.proofs.Expressions.{Fits}
use Rattle.typing_laws.proofs.Held.{Table, table_of}
use Rattle.typing_laws.proofs.Sizes.{Element, element_there}
use Rattle.typing_laws.proofs.Uses.{UsedArray}

-- at least one index
abbrev pub AreIndexes : Exprs → List ℤ → Type 0
AreIndexes no_exprs zs = Unit {0}
AreIndexes (next_expr e rest) zs = zs ≡ [] → ⊥

-- an element that is there
pub record IsFound (K : Ground) (ty : Ty) (w : Memory) (a : Address) : Type 0 where
  pub place : Position
  pub index : ℕ
  pub is : a ≡ item (simple ty) place index []
  pub stands : Stands K w place (types.array ty 0)
  pub value : Value
  pub there : item_in (w.held place) index [] ≡ Some value

module _ (C : Context) (F : Footprint) (X : SourceJob → Memory → Type 0) (ty : Ty) (rank : ℕ) (x : VarId) (qualified : Bool) (indexes : Exprs)
    (u : UsedArray (declared C) C.procedure x ty) where
  abbrev K : Ground
  K = ground (declared C) F

  abbrev a : Expr
  a = typed (types.array ty rank) (variable x qualified)

  abbrev e : Expr
  e = typed ty (element a indexes)

  abbrev L : Memory → Type 0
  L w = Leaves C X e w

  -- ---- the last check

  module _ (w v : Memory) (h : HasArray C F v x.0 ty) (o : List Output) (zs : List ℤ) (one : indexes_of C indexes w ≡ gives o zs v) where
    abbrev r : Address
    r = root (array (simple ty) h.bounds) h.place

    abbrev dims : List Dimension
    dims = (table_at C F v x.0 ty h).dims

    abbrev IsThat : Memory → Parts → Type 0
    IsThat m p = (p ≡ at_element r zs) × Stands K m h.place (types.array ty 0)

    checked : (b c d : Bool) → has_lows (lows_at C a) dims ≡ b → have_long_lows dims ≡ c → takes_indexes dims zs ≡ d
        → Ends K IsThat (L w) v (provided (b && (c && d)) (λ m. gives [] (at_element r zs) m) v)
    checked false c d lows long takes =
        other_lows ty a indexes w v o zs dims one (named_at C F w v (types.array ty rank) x qualified ty u h) lows
    checked true false d lows long takes =
        low_past_long ty a indexes w v o zs dims one (named_at C F w v (types.array ty rank) x qualified ty u h) long
    checked true true false lows long takes =
        other_rank ty a indexes w v o zs dims one (named_at C F w v (types.array ty rank) x qualified ty u h) takes
    checked true true true lows long takes = (keeps_self K v, (refl, h.stands))

    element_ends : Ends K IsThat (L w) v (element_parts C a r zs v)
    element_ends =
        subst (λ g. Ends K IsThat (L w) v
        (with_held_array g (λ s dims xs m. provided (has_lows (lows_at C a) dims && (have_long_lows dims && takes_indexes dims zs)) (λ m. gives [] (at_element r zs) m) m) v))
        (sym (table_at C F v x.0 ty h).holds)
        (checked (has_lows (lows_at C a) dims) (have_long_lows dims) (takes_indexes dims zs) refl refl refl)

  -- ---- its place

  module _ (w v : Memory) (bounds : List (ℤ × ℤ)) (q : Position) (s : Stands K v q (types.array ty 0)) (zs : List ℤ) (some : zs ≡ [] → ⊥) where
    abbrev at : Address
    at = root (array (simple ty) bounds) q

    abbrev t : Table ty (v.held q)
    t = table_of ty 0 (v.held q) s.holds

    placed : (o : Option ℕ) → element_place t.dims zs ≡ o → Ends K (IsFound K ty) (L w) v (item_if at (simple ty) t.values o v)
    placed None i = keeps_self K v
    placed (Some j) i =
        let g : Element t.values j = element_there t.dims t.values zs j t.sized some i in (
          keeps_self K v,
          record {
            place = q;
            index = j;
            is = refl;
            stands = s;
            value = g.value;
            there = ap (λ h. item_in h j []) t.holds ∙ and_then_self (value_at t.values j) ∙ g.is;
          },
        )

    finished_ends : Ends K (IsFound K ty) (L w) v (finished (at_element at zs) v)
    finished_ends =
        subst (λ g. Ends K (IsFound K ty) (L w) v (with_held_array g (λ s dims xs m. item_if at s xs (element_place dims zs) m) v)) (sym t.holds)
        (placed (element_place t.dims zs) refl)

  -- ---- its address

  module _ (w : Memory) (fits : Fits C F w) (idx : Ends K (λ v zs. AreIndexes indexes zs) (ExprsLeave C X indexes w) w (indexes_of C indexes w))
      (some : (zs : List ℤ) → AreIndexes indexes zs → zs ≡ [] → ⊥) where
    abbrev h : HasArray C F w x.0 ty
    h = array_place C F w fits x ty u

    abbrev there : Address
    there = root (array (simple ty) h.bounds) h.place

    abbrev IsNext : Memory → Parts → Type 0
    IsNext v p = (zs : List ℤ) × (zs ≡ [] → ⊥) × (p ≡ at_element there zs) × Stands K v h.place (types.array ty 0)

    abbrev Go : Address → Memory → Outcome Memory Parts
    Go b m = then (indexes_of C indexes m) (λ zs n. element_parts C a b zs n)

    indexed : Ends K IsNext (L w) w (Go there w)
    indexed =
        then_ends K (λ v zs. AreIndexes indexes zs) IsNext (L w) w (indexes_of C indexes w) (λ zs n. element_parts C a there zs n)
        (ends_weaker K (λ v zs. AreIndexes indexes zs) (ExprsLeave C X indexes w) (L w) w (indexes_of C indexes w) (in_indexes ty a indexes w) idx)
        (λ o zs v one k i.
        let later : HasArray C F v x.0 ty = array_later C F w v x.0 ty k h in
        ends_as K (IsThat w v later o zs one) IsNext (L w) v (element_parts C a there zs v) (λ m p g. (zs, some zs i, g.0, g.1)) (element_ends w v later o zs one))

    pub found_ends : Ends K (IsFound K ty) (L w) w (address_of C e w)
    found_ends =
        let Last = λ (p : Parts) (v : Memory). then (as_new C (element a indexes) p v) finished in
        subst (λ o. Ends K (IsFound K ty) (L w) w o)
        (sym (then_assoc (term_parts C ty (element a indexes) w) (as_new C (element a indexes)) finished
        ∙ ap (λ o. then (then o Go) Last) (array_address C F w w (types.array ty rank) x qualified ty u h)))
        (then_ends K IsNext (IsFound K ty) (L w) w (after [] (Go there w)) Last (ends_after K IsNext (L w) w [] (Go there w) indexed)
        (λ o p v one k n.
        subst (λ z. Ends K (IsFound K ty) (L w) v (Last z v)) (sym n.2)
        (ends_after K (IsFound K ty) (L w) v [] (finished (at_element there n.0) v) (finished_ends w v h.bounds h.place n.3 n.0 n.1))))
