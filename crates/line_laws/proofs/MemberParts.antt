-- What a variable of an object is as a target on both sides: no object is made for it, and its parts are known where the object is.
use Rattle.std.proofs.Common.{◌≡◌, ◌∙◌, sym, ap, ℕ, None, []}
use Rattle.vb_tree.specs.BoundTree as types
use Rattle.vb_tree.specs.BoundTree.{Ty}
use Rattle.vb_tree.specs.declared.value.Value6.{Value6}
use Rattle.bound_tree.specs.Tree.{Declarations, Expr, typed, Term, field}
use Rattle.bound_facts.specs.Members.{field_of}
use Rattle.bound_facts.specs.Node.{auto_class, variable_number}
use Rattle.run_base.specs.Outcomes.{Outcome, after, gives, outside, some_of, then}
use Rattle.written_trees.specs.Exprs.{exp_of, field_name, made_if, member_of, target_exp}
use Rattle.written_trees.specs.Names.{Scope}
use Rattle.vb6_run.specs.Expressions as source
use Rattle.vb6_run.specs.Expressions.{at_field, value_in}
use Rattle.vb6_run.specs.Forms.{SourceLine}
use Rattle.vb6_run.specs.Lines.{let_to, set_to, store_at}
use Rattle.vb6_run.specs.Shapes.{variable_shape}
use Rattle.vb6_run.specs.Store.{Memory, SourceCalls, SourceFrame, write}
use Rattle.vb6_run.specs.Values.{Value, scalar}
use Rattle.net_run.specs.Names as net_names
use Rattle.row_laws.proofs.Composing.{then_assoc, then_gives}
use Rattle.run_matches.specs.Maps.{World}
use Rattle.run_matches.specs.Pledges.{Later, Pledge}
use Rattle.run_matches.specs.Upgrades.{Upgrade}
use Rattle.run_statements.specs.Frames.{IsMember, context_of}
use Rattle.run_statements.specs.Members.{MemberMatch}
use Rattle.agreeing_laws.proofs.Scalars.{scalar_later}
use Rattle.line_laws.proofs.Calm.{Gives}
use Rattle.line_laws.proofs.Elements.{known_auto}

-- no object is made for a variable of an object
module _ (U : Upgrade) (of_class i : ℕ) (member_type : Ty) (m : IsMember U of_class i member_type) where
  pub no_auto : auto_class (variable_number U.program.declarations.vars (field_of U.program.declarations (types.class of_class) i)) ≡ None
  no_auto = ap (λ o. auto_class (variable_number U.program.declarations.vars o)) m.declares ∙ known_auto U m.number m.known

  -- so it is written alike as a target of a Set
  pub member_target : (T : Scope) → T.declarations ≡ U.program.declarations → (ty : Ty) (t : Term)
      → target_exp T (typed ty (field (typed (types.class of_class) t) i)) ≡ exp_of T (typed ty (field (typed (types.class of_class) t) i))
  member_target T declared ty t =
      let d : Expr = typed (types.class of_class) t in
      sym (ap (λ o. made_if T.declarations o (member_of d (exp_of T d) (field_name T d i)))
      (ap (λ (E : Declarations). auto_class (variable_number E.vars (field_of E (types.class of_class) i))) declared ∙ no_auto))

  module _ (oracle : SourceCalls) (p : ℕ) (f : SourceFrame) (l : SourceLine) (ty : Ty) (t : Term) where
    abbrev C : source.Context
    C = context_of U oracle p f l

    abbrev object : Expr
    object = typed (types.class of_class) t

    abbrev to : Expr
    to = typed ty (field object i)

    parts_alone : (s : Memory) → source.parts_of C to s ≡ source.term_parts C ty (field object i) s
    parts_alone s =
        ap (λ go. then (source.term_parts C ty (field object i) s) go) (λ j x s. ap (λ o. source.made_for C o x s) no_auto j)
        ∙ then_gives (source.term_parts C ty (field object i) s)

    -- and a Set does to it what an assignment does
    pub member_set : (x : Value) (s : Memory) → set_to C to x s ≡ let_to C to x s
    member_set x s = ap (λ r. then (then r source.finished) (store_at C to x)) (sym (parts_alone s))

    -- its parts where the object is known
    pub member_parts : (x : Value6) (s : Memory) → Gives C object x s
        → source.parts_of C to s ≡ gives [] (at_field (scalar (types.class of_class) x) of_class (variable_shape U.program.declarations m.number) m.number) s
    member_parts x s is =
        let goes : Value → Memory → Outcome Memory source.Parts =
        λ x w.
        some_of (field_of U.program.declarations (types.class of_class) i)
        (λ y w. gives [] (at_field x of_class (variable_shape U.program.declarations y) y) w) w in
        parts_alone s ∙ sym (then_assoc (source.parts_of C object s) (value_in C object) goes) ∙ ap (λ r. then r goes) is
        ∙ ap (λ o. after [] (some_of o (λ y w. gives [] (at_field (scalar (types.class of_class) x) of_class (variable_shape U.program.declarations y) y) w) s)) m.declares

    -- and none where there is no object
    pub member_none : (s : Memory) → source.parts_of C object s ≡ outside [] → source.address_of C to s ≡ outside []
    member_none s none =
        let goes : Value → Memory → Outcome Memory source.Parts =
        λ x w.
        some_of (field_of U.program.declarations (types.class of_class) i)
        (λ y w. gives [] (at_field x of_class (variable_shape U.program.declarations y) y) w) w in
        ap (λ r. then r source.finished)
        (parts_alone s ∙ sym (then_assoc (source.parts_of C object s) (value_in C object) goes) ∙ ap (λ r. then (then r (value_in C object)) goes) none)

    abbrev pub stored_by : Ty → Value6 → source.Parts → Memory → Outcome Memory Unit
    stored_by of z x s = then (source.finished x s) (write f.env (scalar of z))

    pub member_let : (of : Ty) (z : Value6) (s : Memory) → let_to C to (scalar of z) s ≡ then (source.parts_of C to s) (stored_by of z)
    member_let of z s = then_assoc (source.parts_of C to s) source.finished (write f.env (scalar of z))

-- it goes on to match
pub member_later : (U : Upgrade) (K : Pledge) (w u : World) (of_class number : ℕ) (x : source.Parts) (r : net_names.Parts) → Later U K w u
    → MemberMatch U of_class number w x r → MemberMatch U of_class number u x r
member_later U K w u of_class number x r later m = record {
  object = m.object;
  stands = m.stands;
  written = m.written;
  net_object = m.net_object;
  key = m.key;
  net_stands = m.net_stands;
  is_key = m.is_key;
  same = m.same;
  like = scalar_later U K w u (types.class of_class) m.object m.net_object later m.like;
}
