-- An element that is given by reference: its index is checked at once on both sides.
use Rattle.std.proofs.Common.{◌≡◌, inr, refl, sym, ap, subst, ◌∙◌, ℕ, suc, Bool, true, false, List, [], ◌∷◌, Option, Some, None}
use Rattle.vb_tree.specs.BoundTree.{Ty}
use Rattle.vb6_meaning.specs.Answers.{Answer}
use Rattle.bound_tree.specs.Tree.{Expr, typed, element, Exprs, by_reference}
use Rattle.bound_facts.specs.Node.{is_array_type}
use Rattle.run_base.specs.Frames.{by_address}
use Rattle.run_base.specs.Outcomes.{Outcome, after, answered, found, gives, raises, then}
use Rattle.run_base.specs.Positions.{Position}
use Rattle.vb6_run.specs.Arrays.{element_place, item_if, with_held_array}
use Rattle.vb6_run.specs.Expressions as source
use Rattle.vb6_run.specs.Expressions.{Context, Parts, at_element}
use Rattle.vb6_run.specs.Shapes.{Shape, array, simple}
use Rattle.vb6_run.specs.Store.{Address, Memory, SourceGiven, held_at, item, root}
use Rattle.vb6_run.specs.Values.{Dimension, Value, Values}
use Rattle.net_run.specs.Calls.{Arguments}
use Rattle.net_run.specs.Expressions as target
use Rattle.net_run.specs.Making.{Jobs}
use Rattle.net_run.specs.Names as net_names
use Rattle.net_run.specs.Names.{Reached}
use Rattle.net_run.specs.Shapes as shape
use Rattle.net_run.specs.Store as net
use Rattle.row_laws.proofs.Composing.{after_nil, then_assoc}
use Rattle.run_matches.specs.Addresses.{GivesWhole, IsPlain, IsTarget, Same, SuitsParameter, TakesAddresses, same_item}
use Rattle.run_matches.specs.Agreeing.{Agrees}
use Rattle.run_matches.specs.CoveredVariables.{covers_type}
use Rattle.run_matches.specs.Maps.{World, is_auto_root}
use Rattle.run_matches.specs.Match.{MemoryMatch}
use Rattle.run_matches.specs.Pledges.{Later, NetGiven, Pledge}
use Rattle.run_matches.specs.Upgrades.{Upgrade}
use Rattle.run_statements.specs.Frames.{ElementMatch}
use Rattle.agreeing_laws.proofs.Agreeing.{agrees_gives, agrees_outside, agrees_raises, left_alone, then_agrees}
use Rattle.agreeing_laws.proofs.Indexes.{as_answer, place_agrees}
use Rattle.agreeing_laws.proofs.Moves.{address_later}
use Rattle.run_statements.specs.Arguments.{ArgumentsMatch, next_address}
use Rattle.expression_laws.proofs.ElementValues.{element_like, sizes_of}
use Rattle.expression_laws.proofs.LastingImages.{plain_later}
use Rattle.expression_laws.proofs.References.{or_true, plain_shape}

-- addresses of an element on both sides
record ItemGiven (U : Upgrade) (K : Pledge) (q i : ℕ) (w : World) (g : SourceGiven) (h : NetGiven) : Type 0 where
  pub address : Address
  pub net_address : net.Address
  pub is_given : g ≡ by_address address
  pub is_net_given : h ≡ by_address net_address
  pub same : Same U K w address net_address
  pub target : IsTarget U address
  pub plain : IsPlain U w address
  pub suits : SuitsParameter U q i address net_address

some_is : (p q : Position) → Some p ≡ Some q → p ≡ q
some_is p q e = cc e

module _ (U : Upgrade) (K : Pledge) (ty : Ty) (covers : covers_type ty ≡ true) (keeps : K.keeps ty) (q i : ℕ) (quiet : Bool)
    (addresses : TakesAddresses U q) where
  abbrev R : World → SourceGiven → NetGiven → Type 0
  R w g h = ItemGiven U K q i w g h

  abbrev net_goes : net.Address → net.Memory → Outcome net.Memory NetGiven
  net_goes a w = gives [] (target.given_by a) w

  abbrev net_item : shape.Shape → (array : ℕ) → ℕ → net.Memory → Outcome net.Memory net.Address
  net_item d k j w = gives [] (net.item d k j []) w

  item_is : (w : World) (x : Parts) (r : Reached) (m : ElementMatch U ty w x r) (j : ℕ)
      → R w (by_address (item (simple ty) m.position j [])) (by_address (net.item m.written m.array j []))
  item_is w x r m j = record {
    address = item (simple ty) m.position j [];
    net_address = net.item m.written m.array j [];
    is_given = refl;
    is_net_given = refl;
    same = same_item (simple ty) (simple ty) m.written m.position m.array j [] keeps m.is_matched m.has refl m.same;
    target = inr (record { ty = ty; covers = covers; array = m.position; index = j; stands = refl });
    plain = λ p e. subst (λ (z : Position). is_auto_root U w.map z.root ≡ false) (some_is m.position p e) m.plain;
    suits = (plain_shape U q i (simple ty) m.written ty refl m.same, (tt, addresses));
  }

  -- the source reads what a quiet parameter is given
  handed : (w : World) → MemoryMatch U w → (x : Parts) (r : Reached) (m : ElementMatch U ty w x r) (j : ℕ) (b : Bool)
      → Agrees U K w R (source.given_address b (item (simple ty) m.position j []) w.src) (gives [] (by_address (net.item m.written m.array j [])) w.net)
  handed w start x r m j false =
      agrees_gives U K w R (by_address (item (simple ty) m.position j [])) (by_address (net.item m.written m.array j [])) start (item_is w x r m j)
  handed w start x r m j true = by (held_at (item (simple ty) m.position j []) w.src.held)
    where
      by : (o : Option Value)
          → Agrees U K w R (then (found o w.src) (λ y s. gives [] (by_address (item (simple ty) m.position j [])) s))
          (gives [] (by_address (net.item m.written m.array j [])) w.net)
      by None = agrees_outside U K w R (gives [] (by_address (net.item m.written m.array j [])) w.net)
      by (Some y) =
          agrees_gives U K w R (by_address (item (simple ty) m.position j [])) (by_address (net.item m.written m.array j [])) start (item_is w x r m j)

  at_place : (w : World) → MemoryMatch U w → (x : Parts) (r : Reached) (m : ElementMatch U ty w x r) (o : Option ℕ) (answer : Answer ℕ) → answer ≡ as_answer o
      → Agrees U K w R (then (item_if (root (array (simple ty) m.bounds) m.position) (simple ty) m.has.values o w.src) (source.given_address quiet))
      (then (then (answered answer w.net) (net_item m.written m.array)) net_goes)
  at_place w start x r m None answer is =
      subst (λ z. Agrees U K w R (raises [] 9 w.src) (then (then (answered z w.net) (net_item m.written m.array)) net_goes)) (sym is)
      (agrees_raises U K w R 9 start)
  at_place w start x r m (Some j) answer is =
      subst (λ z. Agrees U K w R (then (item_if (root (array (simple ty) m.bounds) m.position) (simple ty) m.has.values (Some j) w.src) (source.given_address quiet))
      (then (then (answered z w.net) (net_item m.written m.array)) net_goes)) (sym is)
      (left_alone U K w R (source.given_address quiet (item (simple ty) m.position j []) w.src) (gives [] (by_address (net.item m.written m.array j [])) w.net)
      (handed w start x r m j quiet))

  -- the place that the indexes lead to
  behind : (C : Context) (a : Expr) (indexes : Exprs) (S : net_names.Scope) (oracle : Jobs) (w : World) (x : Parts) (r : Reached) → MemoryMatch U w
      → ElementMatch U ty w x r
      → Agrees U K w R (then (source.as_new C (element a indexes) x w.src) (source.given_parts C quiet (typed ty (element a indexes)) true))
      (then (then (target.referred_parts S oracle r w.net) target.finished) net_goes)
  behind C a indexes S oracle w x r start m =
      let at : Address = root (array (simple ty) m.bounds) m.position in
      let e : Expr = typed ty (element a indexes) in
      let go = λ (e : Shape) (dims : List Dimension) (xs : Values) (w : Memory). item_if at e xs (element_place dims m.indexes) w in
      let place = answered (net.place_in (w.net.arrays m.array).counts m.net_indexes 0) w.net in
      subst (λ z. Agrees U K w R (then (source.as_new C (element a indexes) z w.src) (source.given_parts C quiet e true))
      (then (then (target.referred_parts S oracle r w.net) target.finished) net_goes)) (sym m.stands)
      (subst (λ z. Agrees U K w R (then (source.as_new C (element a indexes) (at_element at m.indexes) w.src) (source.given_parts C quiet e true))
      (then (then (target.referred_parts S oracle z w.net) target.finished) net_goes)) (sym m.net_stands)
      (left_alone U K w R (then (with_held_array (w.src.held m.position) go w.src) (source.given_address quiet))
      (then (after [] (then place (net_item m.written m.array))) net_goes)
      (subst (λ z. Agrees U K w R (then (with_held_array (w.src.held m.position) go w.src) (source.given_address quiet)) (then z net_goes))
      (sym (after_nil (then place (net_item m.written m.array))))
      (subst (λ h. Agrees U K w R (then (with_held_array h go w.src) (source.given_address quiet)) (then (then place (net_item m.written m.array)) net_goes))
      (sym m.has.held)
      (at_place w start x r m (element_place m.has.dims m.indexes) (net.place_in (w.net.arrays m.array).counts m.net_indexes 0)
      (place_agrees m.has.dims (w.net.arrays m.array).counts m.indexes m.net_indexes
      (sizes_of U w (simple ty) m.has.dims m.has.values (w.net.arrays m.array) (element_like U w start ty x r m)) m.same_indexes m.counted))))))

  abbrev refers : Outcome net.Memory Reached → (S : net_names.Scope) → Jobs → Outcome net.Memory NetGiven
  refers r S oracle = then (then (then r (target.referred_parts S oracle)) target.finished) net_goes

  refers_is : (r : Outcome net.Memory Reached) (S : net_names.Scope) (oracle : Jobs)
      → refers r S oracle ≡ then r (λ x w. then (then (target.referred_parts S oracle x w) target.finished) net_goes)
  refers_is r S oracle =
      ap (λ z. then z net_goes) (then_assoc r (target.referred_parts S oracle) target.finished)
      ∙ then_assoc r (λ x w. then (target.referred_parts S oracle x w) target.finished) net_goes

  -- the element on both sides
  given_agrees : (C : Context) (a : Expr) (indexes : Exprs) (S : net_names.Scope) (oracle : Jobs) (w : World) (r' : Outcome net.Memory Reached) → MemoryMatch U w
      → Agrees U K w (ElementMatch U ty) (source.term_parts C ty (element a indexes) w.src) r'
      → Agrees U K w R (source.argument_of C quiet (by_reference (typed ty (element a indexes))) w.src) (refers r' S oracle)
  given_agrees C a indexes S oracle w r' start h =
      let e : Expr = typed ty (element a indexes) in
      let r = source.term_parts C ty (element a indexes) w.src in
      let k = λ (p : Parts) (v : Memory). then (source.as_new C (element a indexes) p v) (source.given_parts C quiet e true) in
      let is : source.argument_of C quiet (by_reference e) w.src ≡ then r k =
      ap (λ b. then (source.parts_of C e w.src) (source.given_parts C quiet e b)) (or_true (is_array_type ty))
      ∙ then_assoc r (source.as_new C (element a indexes)) (source.given_parts C quiet e true) in
      subst (λ z. Agrees U K w R z (refers r' S oracle)) (sym is)
      (subst (λ z. Agrees U K w R (then r k) z) (sym (refers_is r' S oracle))
      (then_agrees U K w (ElementMatch U ty) R r r' k (λ x w. then (then (target.referred_parts S oracle x w) target.finished) net_goes) start h
      (λ x y v m l. behind C a indexes S oracle v x y l.match m)))

  -- and then the rest
  given_later : (whole : (a : Address) → GivesWhole U q i a) (v u : World) (g : SourceGiven) (h : NetGiven) (xs : List SourceGiven) (ys : List NetGiven)
      → Later U K v u → R v g h → ArgumentsMatch U K q (suc i) u xs ys → ArgumentsMatch U K q i u (g ∷ xs) (h ∷ ys)
  given_later whole v u g h xs ys later m rest =
      subst (λ z. ArgumentsMatch U K q i u (z ∷ xs) (h ∷ ys)) (sym m.is_given)
      (subst (λ z. ArgumentsMatch U K q i u (by_address m.address ∷ xs) (z ∷ ys)) (sym m.is_net_given)
      (next_address i u m.address m.net_address xs ys (address_later U K v u m.address m.net_address later m.same) m.target (whole m.address)
      (plain_later U K v u m.address m.net_address later m.same m.plain) m.suits rest))

  pub element_agrees : (whole : (a : Address) → GivesWhole U q i a) (C : Context) (a : Expr) (indexes : Exprs) (S : net_names.Scope) (oracle : Jobs) (w : World)
      (r' : Outcome net.Memory Reached) (t : Outcome net.Memory NetGiven) → t ≡ refers r' S oracle → MemoryMatch U w
      → Agrees U K w (ElementMatch U ty) (source.term_parts C ty (element a indexes) w.src) r'
      → (rest : Memory → Outcome Memory (List SourceGiven)) (rest' : net.Memory → Outcome net.Memory Arguments)
      → ((v : World) → Later U K w v → Agrees U K v (ArgumentsMatch U K q (suc i)) (rest v.src) (rest' v.net))
      → Agrees U K w (ArgumentsMatch U K q i)
      (then (source.argument_of C quiet (by_reference (typed ty (element a indexes))) w.src) (λ g w. then (rest w) (λ gs w. gives [] (g ∷ gs) w)))
      (then t (λ g w. then (rest' w) (λ gs w. gives [] (g ∷ gs) w)))
  element_agrees whole C a indexes S oracle w r' t is start first rest rest' more =
      let s = source.argument_of C quiet (by_reference (typed ty (element a indexes))) w.src in
      then_agrees U K w R (ArgumentsMatch U K q i) s t (λ g w. then (rest w) (λ gs w. gives [] (g ∷ gs) w))
      (λ g w. then (rest' w) (λ gs w. gives [] (g ∷ gs) w)) start
      (subst (λ z. Agrees U K w R s z) (sym is) (given_agrees C a indexes S oracle w r' start first))
      (λ g h v m l.
      then_agrees U K v (ArgumentsMatch U K q (suc i)) (ArgumentsMatch U K q i) (rest v.src) (rest' v.net) (λ gs w. gives [] (g ∷ gs) w) (λ gs w. gives [] (h ∷ gs) w) l.match
      (more v l) (λ xs ys u given later. agrees_gives U K u (ArgumentsMatch U K q i) (g ∷ xs) (h ∷ ys) later.match (given_later whole v u g h xs ys later m given)))
