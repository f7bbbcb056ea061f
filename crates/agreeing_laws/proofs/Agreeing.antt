-- How agreements of two computations compose.
use Rattle.std.proofs.Common.{◌≡◌, ℕ, List, [], ◌++◌, Option, refl, sym, ap, ◌∙◌, append_assoc, subst}
use Rattle.vb6_meaning.specs.Answers.{Answer}
use Rattle.vb6_meaning.specs.Answers as value
use Rattle.net_meaning.specs.SameValues as values
use Rattle.run_base.specs.Outcomes.{Output, Outcome, gives, raises, spent, outside, outputs, after, then, answered, some_of, found}
use Rattle.vb6_run.specs.Store.{Memory}
use Rattle.vb6_run.specs.Values.{Value}
use Rattle.net_run.specs.Store as net
use Rattle.net_run.specs.Values as net_value
use Rattle.run_matches.specs.Upgrades.{Upgrade}
use Rattle.run_matches.specs.Maps.{Map, World}
use Rattle.run_matches.specs.Likeness.{LikeV}
use Rattle.run_matches.specs.Match.{StoreMatch, MemoryMatch}
use Rattle.run_matches.specs.Pledges.{Pledge, Later}
use Rattle.run_matches.specs.Agreeing.{world_of, Agrees}
use Rattle.agreeing_laws.specs.Promises.{Weaker, Follows, from_none, from_some, Yields}
use Rattle.agreeing_laws.proofs.Lasting.{weaker_self, later_now, later_from, later_moved}
use Rattle.agreeing_laws.proofs.Outputs.{outputs_after, outputs_then, after_nothing}

module _ (U : Upgrade) where
  -- ---- ends

  pub agrees_gives : {A B : Type 0} (K : Pledge) (w : World) (R : World → A → B → Type 0) (a : A) (b : B) → MemoryMatch U w → R w a b
      → Agrees U K w R (gives [] a w.src) (gives [] b w.net)
  agrees_gives K w R a b h r = (refl, w.map, r, later_now U K w h)

  pub agrees_raises : {A B : Type 0} (K : Pledge) (w : World) (R : World → A → B → Type 0) (e : ℕ) → MemoryMatch U w
      → Agrees U K w R (raises [] e w.src) (raises [] e w.net)
  agrees_raises K w R e h = (refl, refl, w.map, later_now U K w h)

  pub agrees_spent : {A B : Type 0} (K : Pledge) (w : World) (R : World → A → B → Type 0) → MemoryMatch U w
      → Agrees U K w R (spent [] w.src) (spent [] w.net)
  agrees_spent K w R h = (refl, w.map, later_now U K w h)

  -- where the source is outside before it put out anything, nothing is owed
  pub agrees_outside : {A B : Type 0} (K : Pledge) (w : World) (R : World → A → B → Type 0) (r : Outcome net.Memory B) → Agrees U K w R (outside []) r
  agrees_outside K w R r = (outputs r, refl)

  -- ---- outputs before

  pub after_agrees : {A B : Type 0} (K : Pledge) (w0 : World) (R : World → A → B → Type 0) (o q : List Output) (r : Outcome Memory A) (r' : Outcome net.Memory B)
      → q ≡ o → Agrees U K w0 R r r' → Agrees U K w0 R (after o r) (after q r')
  after_agrees K w0 R o q (gives p a s) (gives p' b t) e h = (ap (λ x. x ++ p') e ∙ ap (λ x. o ++ x) h.0, h.1, h.2, h.3)
  after_agrees K w0 R o q (raises p c s) (raises p' d t) e h = (ap (λ x. x ++ p') e ∙ ap (λ x. o ++ x) h.0, h.1, h.2, h.3)
  after_agrees K w0 R o q (spent p s) (spent p' t) e h = (ap (λ x. x ++ p') e ∙ ap (λ x. o ++ x) h.0, h.1, h.2)
  after_agrees K w0 R o q (outside p) r' e h =
      (h.0, outputs_after q r' ∙ ap (λ x. x ++ outputs r') e ∙ ap (λ x. o ++ x) h.1 ∙ sym (append_assoc o p h.0))
  after_agrees K w0 R o q _ _ e h = absurd h

  pub left_alone : {A B : Type 0} (K : Pledge) (w0 : World) (R : World → A → B → Type 0) (r : Outcome Memory A) (r' : Outcome net.Memory B)
      → Agrees U K w0 R r r' → Agrees U K w0 R (after [] r) r'
  left_alone K w0 R r r' h = subst (λ x. Agrees U K w0 R x r') (sym (after_nothing r)) h

  pub right_alone : {A B : Type 0} (K : Pledge) (w0 : World) (R : World → A → B → Type 0) (r : Outcome Memory A) (r' : Outcome net.Memory B)
      → Agrees U K w0 R r r' → Agrees U K w0 R r (after [] r')
  right_alone K w0 R r r' h = subst (λ x. Agrees U K w0 R r x) (sym (after_nothing r')) h

  -- ---- from another world, with another pledge or relation

  -- from an earlier world, with a pledge that is weaker from there on
  pub agrees_from : {A B : Type 0} (L K : Pledge) (w0 w1 : World) (R : World → A → B → Type 0) (r : Outcome Memory A) (r' : Outcome net.Memory B)
      → StoreMatch U w0 → Weaker w0 L K → Later U L w0 w1 → Agrees U K w1 R r r' → Agrees U L w0 R r r'
  agrees_from L K w0 w1 R (gives o a s) (gives q b t) start f l h = (h.0, h.1, h.2, later_from U L K w0 w1 (world_of h.1 s t) start f l h.3)
  agrees_from L K w0 w1 R (raises o e s) (raises q d t) start f l h = (h.0, h.1, h.2, later_from U L K w0 w1 (world_of h.2 s t) start f l h.3)
  agrees_from L K w0 w1 R (spent o s) (spent q t) start f l h = (h.0, h.1, later_from U L K w0 w1 (world_of h.1 s t) start f l h.2)
  agrees_from L K w0 w1 R (outside o) r' start f l h = h
  agrees_from L K w0 w1 R _ _ start f l h = absurd h

  -- less is said of what is given
  pub agrees_weaker : {A B : Type 0} (K : Pledge) (w0 : World) (R S : World → A → B → Type 0) (r : Outcome Memory A) (r' : Outcome net.Memory B)
      → ((w : World) (a : A) (b : B) → Later U K w0 w → R w a b → S w a b) → Agrees U K w0 R r r' → Agrees U K w0 S r r'
  agrees_weaker K w0 R S (gives o a s) (gives q b t) g h = (h.0, h.1, g (world_of h.1 s t) a b h.3 h.2, h.3)
  agrees_weaker K w0 R S (raises o e s) (raises q d t) g h = h
  agrees_weaker K w0 R S (spent o s) (spent q t) g h = h
  agrees_weaker K w0 R S (outside o) r' g h = h
  agrees_weaker K w0 R S _ _ g h = absurd h

  -- less is promised
  pub agrees_promised : {A B : Type 0} (L K : Pledge) (w0 : World) (R : World → A → B → Type 0) (r : Outcome Memory A) (r' : Outcome net.Memory B)
      → MemoryMatch U w0 → Weaker w0 L K → Agrees U K w0 R r r' → Agrees U L w0 R r r'
  agrees_promised L K w0 R r r' start f h = agrees_from L K w0 w0 R r r' start.stores f (later_now U L w0 start) h

  -- two promises of one computation
  pub agrees_later : {A B : Type 0} (K L : Pledge) (w0 : World) (R S : World → A → B → Type 0) (r : Outcome Memory A) (r' : Outcome net.Memory B)
      → ((k : ℕ) → K.takes k → L.takes k) → Agrees U K w0 R r r' → Agrees U L w0 S r r' → Agrees U K w0 (λ w a b. R w a b × Later U L w0 w) r r'
  agrees_later K L w0 R S (gives o a s) (gives q b t) takes h i = (h.0, h.1, (h.2, later_moved U L K w0 i.1 h.1 s t takes i.3 h.3), h.3)
  agrees_later K L w0 R S (raises o e s) (raises q d t) takes h i = h
  agrees_later K L w0 R S (spent o s) (spent q t) takes h i = h
  agrees_later K L w0 R S (outside o) r' takes h i = h
  agrees_later K L w0 R S _ _ takes h i = absurd h

  -- ---- facts of one side alone

  pub agrees_yields : {A B : Type 0} (K : Pledge) (w0 : World) (R : World → A → B → Type 0) (Q : A → Memory → Type 0) (r : Outcome Memory A)
      (r' : Outcome net.Memory B) → Yields Q r → Agrees U K w0 R r r' → Agrees U K w0 (λ w a b. R w a b × Q a w.src) r r'
  agrees_yields K w0 R Q (gives o a s) (gives q b t) y h = (h.0, h.1, (h.2, y), h.3)
  agrees_yields K w0 R Q (raises o e s) (raises q d t) y h = h
  agrees_yields K w0 R Q (spent o s) (spent q t) y h = h
  agrees_yields K w0 R Q (outside o) r' y h = h
  agrees_yields K w0 R Q _ _ y h = absurd h

  pub agrees_net_yields : {A B : Type 0} (K : Pledge) (w0 : World) (R : World → A → B → Type 0) (Q : B → net.Memory → Type 0) (r : Outcome Memory A)
      (r' : Outcome net.Memory B) → Yields Q r' → Agrees U K w0 R r r' → Agrees U K w0 (λ w a b. R w a b × Q b w.net) r r'
  agrees_net_yields K w0 R Q (gives o a s) (gives q b t) y h = (h.0, h.1, (h.2, y), h.3)
  agrees_net_yields K w0 R Q (raises o e s) (raises q d t) y h = h
  agrees_net_yields K w0 R Q (spent o s) (spent q t) y h = h
  agrees_net_yields K w0 R Q (outside o) r' y h = h
  agrees_net_yields K w0 R Q _ _ y h = absurd h

  -- ---- one computation after another

  -- the rest is told of from the first world on
  pub then_agrees_from : {A B C D : Type 0} (K : Pledge) (w0 : World) (R : World → A → B → Type 0) (S : World → C → D → Type 0) (r : Outcome Memory A)
      (r' : Outcome net.Memory B) (k : A → Memory → Outcome Memory C) (k' : B → net.Memory → Outcome net.Memory D) → Agrees U K w0 R r r'
      → ((a : A) (b : B) (w : World) → R w a b → Later U K w0 w → Agrees U K w0 S (k a w.src) (k' b w.net)) → Agrees U K w0 S (then r k) (then r' k')
  then_agrees_from K w0 R S (gives o a s) (gives q b t) k k' h go = after_agrees K w0 S o q (k a s) (k' b t) h.0 (go a b (world_of h.1 s t) h.2 h.3)
  then_agrees_from K w0 R S (raises o e s) (raises q d t) k k' h go = h
  then_agrees_from K w0 R S (spent o s) (spent q t) k k' h go = h
  then_agrees_from K w0 R S (outside o) r' k k' h go = outputs_then o h.0 r' k' h.1
  then_agrees_from K w0 R S _ _ k k' h go = absurd h

  pub then_agrees : {A B C D : Type 0} (K : Pledge) (w0 : World) (R : World → A → B → Type 0) (S : World → C → D → Type 0) (r : Outcome Memory A)
      (r' : Outcome net.Memory B) (k : A → Memory → Outcome Memory C) (k' : B → net.Memory → Outcome net.Memory D) → MemoryMatch U w0
      → Agrees U K w0 R r r' → ((a : A) (b : B) (w : World) → R w a b → Later U K w0 w → Agrees U K w S (k a w.src) (k' b w.net))
      → Agrees U K w0 S (then r k) (then r' k')
  then_agrees K w0 R S r r' k k' start h go =
      then_agrees_from K w0 R S r r' k k' h
      (λ a b w x l. agrees_from K K w0 w S (k a w.src) (k' b w.net) start.stores (weaker_self w0 K) l (go a b w x l))

  -- the same, where the rest promises more from there on, as a call does that takes arrays which were made since
  pub then_promised : {A B C D : Type 0} (L : Pledge) (w0 : World) (K : A → B → World → Pledge) (R : World → A → B → Type 0) (S : World → C → D → Type 0)
      (r : Outcome Memory A) (r' : Outcome net.Memory B) (k : A → Memory → Outcome Memory C) (k' : B → net.Memory → Outcome net.Memory D)
      → MemoryMatch U w0 → Agrees U L w0 R r r' → ((a : A) (b : B) (w : World) → R w a b → Later U L w0 w → Weaker w0 L (K a b w))
      → ((a : A) (b : B) (w : World) → R w a b → Later U L w0 w → Agrees U (K a b w) w S (k a w.src) (k' b w.net))
      → Agrees U L w0 S (then r k) (then r' k')
  then_promised L w0 K R S r r' k k' start h f go =
      then_agrees_from L w0 R S r r' k k' h
      (λ a b w x l. agrees_from L (K a b w) w0 w S (k a w.src) (k' b w.net) start.stores (f a b w x l) l (go a b w x l))

  -- the source's value is known, and its memory is as it was
  pub given_agrees : {A B C D : Type 0} (K : Pledge) (w0 : World) (R : World → A → B → Type 0) (S : World → C → D → Type 0) (a : A) (s : Memory)
      (r' : Outcome net.Memory B) (k : A → Memory → Outcome Memory C) (k' : B → net.Memory → Outcome net.Memory D) → MemoryMatch U w0
      → Agrees U K w0 R (gives [] a s) r'
      → ((b : B) (m : Map) (t : net.Memory) → R (world_of m s t) a b → Later U K w0 (world_of m s t) → Agrees U K (world_of m s t) S (k a s) (k' b t))
      → Agrees U K w0 S (k a s) (then r' k')
  given_agrees K w0 R S a s (gives q b t) k k' start h go =
      let w : World = world_of h.1 s t in
      subst (λ x. Agrees U K w0 S x (after q (k' b t))) (after_nothing (k a s))
      (after_agrees K w0 S [] q (k a s) (k' b t) h.0 (agrees_from K K w0 w S (k a s) (k' b t) start.stores (weaker_self w0 K) h.3 (go b h.1 t h.2 h.3)))
  given_agrees K w0 R S a s (raises q d t) k k' start h go = absurd h
  given_agrees K w0 R S a s (spent q t) k k' start h go = absurd h
  given_agrees K w0 R S a s (outside q) k k' start h go = absurd h

  -- ---- what is there, and values that need no memory

  pub some_of_agrees : {X Y A B : Type 0} (K : Pledge) (w : World) (R : World → A → B → Type 0) (Q : X → Y → Type 0) (o : Option X) (o' : Option Y)
      (go : X → Memory → Outcome Memory A) (go' : Y → net.Memory → Outcome net.Memory B) → Follows Q o o'
      → ((x : X) (y : Y) → Q x y → Agrees U K w R (go x w.src) (go' y w.net)) → Agrees U K w R (some_of o go w.src) (some_of o' go' w.net)
  some_of_agrees K w R Q o o' go go' (from_none b) k = agrees_outside K w R (some_of o' go' w.net)
  some_of_agrees K w R Q o o' go go' (from_some x y q) k = k x y q

  -- the same, where the target goes on with an address that is none
  pub nowhere_agrees : {X A B : Type 0} (K : Pledge) (w : World) (R : World → A → B → Type 0) (Q : X → net.Address → Type 0) (o : Option X)
      (o' : Option net.Address) (go : X → Memory → Outcome Memory A) (go' : net.Address → net.Memory → Outcome net.Memory B) → Follows Q o o'
      → ((x : X) (y : net.Address) → Q x y → Agrees U K w R (go x w.src) (go' y w.net)) → Agrees U K w R (some_of o go w.src) (go' (net.or_nowhere o') w.net)
  nowhere_agrees K w R Q o o' go go' (from_none b) k = agrees_outside K w R (go' (net.or_nowhere o') w.net)
  nowhere_agrees K w R Q o o' go go' (from_some x y q) k = k x y q

  -- and with a value that is unknown
  pub unknown_agrees : (K : Pledge) (w : World) (o : Option Value) (o' : Option net_value.Value) → MemoryMatch U w → Follows (LikeV U w) o o'
      → Agrees U K w (LikeV U) (found o w.src) (gives [] (net_value.or_unknown o') w.net)
  unknown_agrees K w o o' h (from_none b) = agrees_outside K w (LikeV U) (gives [] (net_value.or_unknown o') w.net)
  unknown_agrees K w o o' h (from_some x y q) = agrees_gives K w (LikeV U) x y h q

  pub found_agrees : {A B : Type 0} (K : Pledge) (w : World) (R : World → A → B → Type 0) (o : Option A) (o' : Option B) → MemoryMatch U w → Follows (R w) o o'
      → Agrees U K w R (found o w.src) (found o' w.net)
  found_agrees K w R o o' h (from_none b) = agrees_outside K w R (found o' w.net)
  found_agrees K w R o o' h (from_some x y q) = agrees_gives K w R x y h q

  pub answered_agrees : {A B : Type 0} (K : Pledge) (w : World) (R : World → A → B → Type 0) (a : Answer A) (b : Answer B) → MemoryMatch U w
      → values.Agrees (R w) a b → Agrees U K w R (answered a w.src) (answered b w.net)
  answered_agrees K w R (value.gives v) b h k =
      subst (λ z. Agrees U K w R (answered (value.gives v) w.src) (answered z w.net)) (sym k.1) (agrees_gives K w R v k.0 h k.2)
  answered_agrees K w R (value.raises e) b h k =
      subst (λ z. Agrees U K w R (answered (value.raises e) w.src) (answered z w.net)) (sym k) (agrees_raises K w R e h)
  answered_agrees K w R value.outside b h k = agrees_outside K w R (answered b w.net)
