use Rattle.std.proofs.Common.{◌≡◌, ℕ, ◌+◌, List, [], ◌∷◌, ◌++◌, length, map, ap, sym, ◌∙◌, arith}
use Rattle.std.specs.Prelude.{slice_get}
use Rattle.std.proofs.lemmas.List.{append_assoc, map-append}
use Rattle.vb_tree.specs.declared.declared.VarId.{VarId}
use Rattle.bound_tree.specs.Tree.{Declarations}
use Rattle.expression_words.specs.declared.slots.Slot.{Slot}
use Rattle.expression_words.specs.declared.supplied.Supplied.{Supplied}
use Rattle.expression_words.specs.Passing.{given_slots, param_at, slot}
use Rattle.expression_words.specs.View.{declared_in, slot_of, supplied_of}
use Rattle.expression_words.proofs.passing.given_slots.Goals as goal

one_given : (D : Declarations) (params : List VarId) (i : ℕ) (done : List Slot) (given : Slot) (arg : Supplied) (rest all : List Supplied) → all ≡ arg ∷ rest
    → slot_of given ≡ slot D (param_at D (slice_get params i)) (supplied_of arg)
    → map slot_of (done ++ given ∷ []) ++ given_slots D params (i + 1) (map supplied_of rest) ≡ map slot_of done ++ given_slots D params i (map supplied_of all)
one_given D params i done given arg rest all e g =
    ap (λ xs. xs ++ given_slots D params (i + 1) (map supplied_of rest)) (map-append slot_of done (given ∷ []))
    ∙ append_assoc (map slot_of done) (slot_of given ∷ []) (given_slots D params (i + 1) (map supplied_of rest))
    ∙ ap (λ s. map slot_of done ++ (s ∷ given_slots D params (i + 1) (map supplied_of rest))) g
    ∙ ap (λ xs. map slot_of done ++ given_slots D params i (map supplied_of xs)) (sym e)

pub loop-arg-preserved : goal.loop-arg-preserved
loop-arg-preserved c =
    let D = declared_in c.args.context in
    let params = c.args.params.now in
    let i = c.loop-arg.next in
    let rest = c.next.new.self.rest.items in
    let given = c.in_ok-given.ensures ∙ ap (λ o. slot D o (supplied_of c.in-Some.arg)) c.param_at.ensures in
    record {
      counted = omega (arith, ap length c.in-Some.ensures.steps.0, c.loop-arg.invariant.counted);
      slots =
          ap (λ xs. map slot_of xs ++ given_slots D params (i + 1) (map supplied_of rest)) c.in_ok-push.ensures.items
          ∙ one_given D params i c.loop-arg.all.items c.in_ok-given.given c.in-Some.arg rest c.loop-arg.arg-iterator.rest.items c.in-Some.ensures.steps.0 given
          ∙ c.loop-arg.invariant.slots;
    }
