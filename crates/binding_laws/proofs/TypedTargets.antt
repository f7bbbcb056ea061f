-- What statements do with names and expressions: each use of a variable has its type.
use Rattle.std.proofs.Common.{◌≡◌, ℕ, zero, suc, Bool, true, false, ◌&&◌, List, [], Option, Some, None, refl}
use Rattle.std.specs.Prelude.{slice_get}
use Rattle.vb_tree.specs.declared.declared.ProcKind.{ProcKind}
use Rattle.vb_tree.specs.declared.declared.ProcKind.TheVariants as kind
use Rattle.bound_tree.specs.declared.body.Mention.TheVariants as mention
use Rattle.bound_tree.specs.Tree.{Declarations, Expr, Object, of_object}
use Rattle.bound_facts.specs.Node.{type_at, is_object_type}
use Rattle.typing_rows.specs.Conversions.{is_without_type, is_counter}
use Rattle.expression_words.specs.Flaws as flaws
use Rattle.expression_words.specs.Flaws.{Typed, known, breaks, lacks, on_known}
use Rattle.expression_words.specs.Converting.{id, default_at}
use Rattle.expression_words.specs.LibraryCalls.{gives_no_value, library_call_of}
use Rattle.expression_words.specs.Members.{is_a_property, store_part, result_in, taken_by, params_of, without_last, count_classes}
use Rattle.expression_words.specs.Passing.{Supplied, with_slack, is_place, called}
use Rattle.expression_words.specs.Targets.{rule_for, unfit, read_type, stored, stored_call, store_by_part, takes_object, let_procedure, let_behind, let_known, let_target, set_target, is_variable, counted, counter, no_statement, statement}
use Rattle.expression_words.specs.Meanings.{Meaning, value, procedure, library_word, of_module, of_enum, err, err_member, args_in}
use Rattle.run_matches.specs.Covered.{is_plain_kind}
use Rattle.typing_laws.specs.Typed.{is_typed, is_typed_object}
use Rattle.binding_laws.specs.Typing.{HasTypes}
use Rattle.binding_laws.proofs.TypedArguments.{AreSupplied, call_with_typed, called_typed, library_call_typed, err_typed}
use Rattle.binding_laws.proofs.FittingTypes.{no_plain_part}
use Rattle.binding_laws.proofs.TypedParts.{either, over_known, a_part}
use Rattle.binding_laws.proofs.TypedWords.{HasMeaning, given_args}

module _ (D : Declarations) where
  -- ---- what is given a value

  stored_typed : (e : Expr) → is_typed D e ≡ true → HasTypes D (stored e)
  stored_typed e h = either D (is_place e) (known e) (flaws.unknown (breaks (rule_for 21 e))) h tt

  part_typed : (p : ℕ) (k : ProcKind) → is_plain_kind k ≡ false → (qualified : Bool) (of : Object) (args : List Supplied) → is_typed_object D of ≡ true
      → AreSupplied D args → HasTypes D (store_by_part D p qualified of args (store_part D k p))
  part_typed p k plain qualified of args h l = by (store_part D k p) refl
    where
      by : (o : Option ℕ) → store_part D k p ≡ o → HasTypes D (store_by_part D p qualified of args o)
      by None e = tt
      by (Some q) e =
          let x = no_plain_part D k p q plain e in
          either D (is_without_type (result_in (slice_get D.procs q))) (flaws.unknown (with_slack (lacks (mention.Proc (id q))) args))
          (stored_call D qualified of args q) tt
          (call_with_typed D q qualified of (taken_by D q) (without_last (params_of D q)) args (a_part x.0 x.1 x.2) h l)

  let_procedure_typed : (next : Expr → Typed) → ((e : Expr) → is_typed D e ≡ true → HasTypes D (next e)) → (p : ℕ) (qualified : Bool) (of : Object)
      (args : List Supplied) → is_typed_object D of ≡ true → AreSupplied D args → HasTypes D (let_procedure next D p qualified of args)
  let_procedure_typed next n p qualified of args h k =
      either D (takes_object D p) (on_known next (called D p qualified of args)) (store_by_part D p qualified of args (store_part D kind.Let p))
      (over_known D next (called D p qualified of args) (called_typed D p qualified of args h k) n)
      (part_typed p kind.Let refl qualified of args h k)

  let_behind_typed : (next : Expr → Typed) → ((e : Expr) → is_typed D e ≡ true → HasTypes D (next e)) → (e : Expr) (o : Option ℕ) → is_typed D e ≡ true
      → HasTypes D (let_behind next D e o)
  let_behind_typed next n e None h = tt
  let_behind_typed next n e (Some p) h = let_procedure_typed next n p false (of_object e) [] h tt

  let_known_typed : (n : ℕ) (e : Expr) → is_typed D e ≡ true → HasTypes D (let_known D n e)
  let_known_typed zero e h = either D (is_object_type (type_at e)) (flaws.unknown (breaks 6)) (stored e) tt (stored_typed e h)
  let_known_typed (suc n) e h =
      either D (is_object_type (type_at e)) (let_behind (let_known D n) D e (default_at D (type_at e))) (stored e)
      (let_behind_typed (let_known D n) (let_known_typed n) e (default_at D (type_at e)) h) (stored_typed e h)

  pub let_typed : (m : Meaning) → HasMeaning D m → HasTypes D (let_target D m)
  let_typed (value t) h = over_known D (let_known D (count_classes D)) t h (let_known_typed (count_classes D))
  let_typed (procedure p qualified of args) h =
      let_procedure_typed (let_known D (count_classes D)) (let_known_typed (count_classes D)) p qualified of (args_in args) h.0 (given_args D args h.1)
  let_typed (library_word f args) h = tt
  let_typed (of_module file) h = tt
  let_typed (of_enum e) h = tt
  let_typed err h = tt
  let_typed (err_member m args) h = tt

  pub set_typed : (m : Meaning) → HasMeaning D m → HasTypes D (set_target D m)
  set_typed (value t) h = over_known D stored t h stored_typed
  set_typed (procedure p qualified of args) h = part_typed p kind.Set refl qualified of (args_in args) h.0 (given_args D args h.1)
  set_typed (library_word f args) h = tt
  set_typed (of_module file) h = tt
  set_typed (of_enum e) h = tt
  set_typed err h = tt
  set_typed (err_member m args) h = tt

  -- ---- counters

  counted_typed : (e : Expr) → is_typed D e ≡ true → HasTypes D (counted e)
  counted_typed e h = either D (is_variable e && is_counter (type_at e)) (known e) (flaws.unknown (breaks (rule_for 22 e))) h tt

  pub counter_typed : (m : Meaning) → HasMeaning D m → HasTypes D (counter D m)
  counter_typed (value t) h = over_known D counted t h counted_typed
  counter_typed (procedure p qualified of args) h = tt
  counter_typed (library_word f args) h = tt
  counter_typed (of_module file) h = tt
  counter_typed (of_enum e) h = tt
  counter_typed err h = tt
  counter_typed (err_member m args) h = tt

  -- ---- calls as statements

  no_statement_typed : (t : Typed) → HasTypes D (on_known no_statement t)
  no_statement_typed (known e) = tt
  no_statement_typed (flaws.unknown f) = tt

  pub statement_typed : (m : Meaning) → HasMeaning D m → HasTypes D (statement D m)
  statement_typed (value t) h = no_statement_typed t
  statement_typed (procedure p qualified of args) h =
      either D (is_a_property (slice_get D.procs p)) (unfit p (args_in args) 3 (read_type D p)) (called D p qualified of (args_in args)) tt
      (called_typed D p qualified of (args_in args) h.0 (given_args D args h.1))
  statement_typed (library_word f args) h =
      either D (gives_no_value f) (library_call_of D f (args_in args)) (flaws.unknown (with_slack (breaks 3) (args_in args)))
      (library_call_typed D f (args_in args) (given_args D args h)) tt
  statement_typed (of_module file) h = tt
  statement_typed (of_enum e) h = tt
  statement_typed err h = tt
  statement_typed (err_member m args) h = err_typed D m (args_in args) (given_args D args h)
