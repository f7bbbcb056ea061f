-- Expressions and arguments are read back.
use Rattle.std.proofs.Common.{◌≡◌, suc, ◌≤◌, Bool, true, false, not, ◌&&◌, ◌||◌, ◌++◌, length, codes, refl, ap, ◌∙◌, arith, ⊎_elim, length-append, Some, leb-true}
use Rattle.std.proofs.lemmas.Bool.{not-true, or_cases}
use Rattle.net_tree.specs.Types as ty
use Rattle.net_tree.specs.Types.{TypeName}
use Rattle.net_tree.specs.Tree.{Exp, Exps, binary, call_of, cast, ctype, dot, lit, me, new_array, new_object, next_exp, no_exps, nothing, paren, path, type_of, unary, with_dot}
use Rattle.net_tree.specs.Spelling.{is_identifier, separated}
use Rattle.net_tree.specs.Expressions.{are_writable_bounds, are_writable_exps, arguments_text, exp_text, exp_texts, is_named, is_no_bound, is_path_exp, is_writable_exp, is_writable_type}
use Rattle.net_exprs.specs.Readers.{behind}
use Rattle.net_exprs.specs.Expressions.{arguments_of}
use Rattle.net_exprs.specs.Fitting.{fits_exp, fits_exps, fits_name, fits_type}
use Rattle.net_exprs.specs.Laws.{ArgumentsAreRead, ArgumentsWithRoomAreRead, ExpressionsAreRead, ExpressionsWithRoomAreRead, NestedArgumentsAreRead, NestedExpressionsAreRead, ShallowArgumentsAreRead, ShallowExpressionsAreRead}
use Rattle.net_tree.specs.Depth.{depth_exp, depth_exps, most_nested}
use Rattle.net_exprs.proofs.Words.{both_true, never}
use Rattle.phrase_laws.proofs.TypesRead.{is_array}
use Rattle.phrase_laws.proofs.Heads.{operand_front}
use Rattle.phrase_laws.proofs.ExpressionsRead.{AreItems, Reads, array_reads, binary_reads, call_reads, cast_reads, ctype_reads, dot_reads, group_of, group_reads, is_operand_item, literal_reads, me_reads, no_bound_is_item, nothing_reads, object_reads, paren_reads, path_reads, reads_whole, type_of_reads, unary_reads, with_dot_reads}
use Rattle.phrase_laws.proofs.Lengths.{depth_all_within, depth_within}
use Rattle.net_exprs.proofs.Rooms.{arguments_kept, exp_kept}

-- ---- each expression, and each list

named_is_no_array : (t : TypeName) → is_named t ≡ true → is_array t ≡ false
named_is_no_array (ty.named names) h = refl
named_is_no_array (ty.array_of element r) h = never h
named_is_no_array _ h = refl

bounds_of_args : (es : Exps) → are_writable_exps es ≡ true → are_writable_bounds es ≡ true
bounds_of_args no_exps h = refl
bounds_of_args (next_exp e more) h =
    let parts = both_true (is_writable_exp e) (are_writable_exps more) h in
    joined (is_no_bound e) (is_writable_exp e) (are_writable_bounds more) parts.0 (bounds_of_args more parts.1)
  where
    joined : (a b c : Bool) → b ≡ true → c ≡ true → ((a || b) && c) ≡ true
    joined true b c h k = k
    joined false true c h k = k
    joined false false c h k = never h

mutual
  reads : (e : Exp) → is_writable_exp e ≡ true → fits_exp e ≡ true → Reads e
  reads (lit l) h f = literal_reads l h f
  reads nothing h f = nothing_reads
  reads me h f = me_reads
  reads (path names) h f = path_reads names h
  reads (with_dot name) h f = with_dot_reads name h
  reads (dot a name) h f =
      let outer = both_true (not (is_path_exp a) && is_writable_exp a) (is_identifier name) h in
      let parts = both_true (not (is_path_exp a)) (is_writable_exp a) outer.0 in
      dot_reads a name (not-true (is_path_exp a) parts.0) outer.1 (reads a parts.1 (both_true (fits_exp a) (fits_name name) f).0)
  reads (call_of a args) h f =
      let parts = both_true (is_writable_exp a) (are_writable_exps args) h in
      let fit = both_true (fits_exp a) (fits_exps args) f in
      call_reads a args (reads a parts.0 fit.0) (are_items args (bounds_of_args args parts.1) fit.1)
  reads (cast w a) h f = cast_reads w a (reads_whole a (reads a h f))
  reads (ctype a t) h f =
      let parts = both_true (is_writable_exp a) (is_writable_type t) h in
      ctype_reads a t (reads_whole a (reads a parts.0 (both_true (fits_exp a) (fits_type t) f).0)) parts.1
  reads (unary o a) h f = unary_reads o a (reads_whole a (reads a h f))
  reads (binary o a b) h f =
      let parts = both_true (is_writable_exp a) (is_writable_exp b) h in
      let fit = both_true (fits_exp a) (fits_exp b) f in
      binary_reads o a b (λ rest. operand_front a rest parts.0 fit.0) (reads_whole a (reads a parts.0 fit.0)) (reads_whole b (reads b parts.1 fit.1))
  reads (paren a) h f = paren_reads a (λ rest. operand_front a rest h f) (reads_whole a (reads a h f))
  reads (new_object t args) h f =
      let outer = both_true (is_named t && is_writable_type t) (are_writable_exps args) h in
      let parts = both_true (is_named t) (is_writable_type t) outer.0 in
      object_reads t args (named_is_no_array t parts.0) parts.1 (are_items args (bounds_of_args args outer.1) (both_true (fits_type t) (fits_exps args) f).1)
  reads (new_array t bounds) h f =
      let parts = both_true (is_writable_type t) (are_writable_bounds bounds) h in
      array_reads t bounds parts.0 (are_items bounds parts.1 (both_true (fits_type t) (fits_exps bounds) f).1)
  reads (type_of a t) h f =
      let parts = both_true (is_writable_exp a) (is_writable_type t) h in
      type_of_reads a t (reads_whole a (reads a parts.0 (both_true (fits_exp a) (fits_type t) f).0)) parts.1

  are_items : (es : Exps) → are_writable_bounds es ≡ true → fits_exps es ≡ true → AreItems es
  are_items no_exps h f = tt
  are_items (next_exp e more) h f =
      let parts = both_true (is_no_bound e || is_writable_exp e) (are_writable_bounds more) h in
      let fit = both_true (fits_exp e) (fits_exps more) f in (
        ⊎_elim (no_bound_is_item e) (λ w. is_operand_item e (λ rest. operand_front e rest w fit.0) (reads_whole e (reads e w fit.0))) (or_cases (is_no_bound e) (is_writable_exp e) parts.0),
        are_items more parts.1 fit.1,
      )

-- ---- the laws

pub roomy_expression_reads : ExpressionsWithRoomAreRead
roomy_expression_reads room e rest d h f ends = reads_whole e (reads e h f) room rest d ends

pub nested_expression_reads : NestedExpressionsAreRead
nested_expression_reads room e rest d h f ends = exp_kept room (exp_text e ++ rest) e rest (roomy_expression_reads room e rest d h f ends) d

pub expression_reads : ExpressionsAreRead
expression_reads e rest h f ends =
    roomy_expression_reads (suc (length (exp_text e ++ rest))) e rest (omega (arith, depth_within e, length-append (exp_text e) rest)) h f ends

group_arguments : (es : Exps) → arguments_of (group_of es) ≡ es
group_arguments no_exps = refl
group_arguments (next_exp e more) = refl

pub roomy_arguments_read : ArgumentsWithRoomAreRead
roomy_arguments_read room es rest d h f =
    ap (λ o. behind o (λ g rest. Some (arguments_of g, rest))) (group_reads room es rest (are_items es (bounds_of_args es h) f) d)
    ∙ ap (λ x. Some (x, rest)) (group_arguments es)

pub nested_arguments_read : NestedArgumentsAreRead
nested_arguments_read room es rest d h f = arguments_kept room (arguments_text es ++ rest) es rest (roomy_arguments_read room es rest d h f) d

pub arguments_read : ArgumentsAreRead
arguments_read es rest h f =
    let fuel : depth_exps es ≤ suc (length (arguments_text es ++ rest)) =
    omega (arith, depth_all_within es, length-append (separated (codes ", ") (exp_texts es) ++ codes ")") rest, length-append (separated (codes ", ") (exp_texts es)) (codes ")")) in
    roomy_arguments_read (suc (length (arguments_text es ++ rest))) es rest fuel h f

pub shallow_expression_reads : ShallowExpressionsAreRead
shallow_expression_reads e rest d h f ends = nested_expression_reads most_nested e rest (leb-true (depth_exp e) most_nested d) h f ends

pub shallow_arguments_read : ShallowArgumentsAreRead
shallow_arguments_read es rest d h f = nested_arguments_read most_nested es rest (leb-true (depth_exps es) most_nested d) h f
