-- Examples of the functions that make an object where there is none, and a structure with its fields made.
use Rattle.std.specs.Prelude.{◌≡◌, false, pos, [], ◌∷◌, codes, None}
use Rattle.std.proofs.Common.{refl}
use Rattle.net_tree.specs.declared.declaration.NetClose.TheVariants as close
use Rattle.net_tree.specs.declared.declaration.NetPassing.TheVariants as passing
use Rattle.net_tree.specs.declared.declaration.NetVisibility.TheVariants.{Public}
use Rattle.net_tree.specs.declared.expression.NetBin.TheVariants as op
use Rattle.net_tree.specs.Types as ty
use Rattle.net_tree.specs.Tree.{Procedure, assign, binary, call_of, end_if, function, if_head, integer, lit, local, new_array, new_object, next_exp, no_exps, nothing, path}
use Rattle.std.specs.Fmt.{digits}
use Rattle.net_tree.specs.Spelling.{is_bracketed}
use Rattle.net_tree.specs.Declarations.{procedure_text}
use Rattle.net_tree.proofs.WrittenLines.{text_of}

abbrev the_auto_counter : Procedure
the_auto_counter = record {
  head = function Public (codes "Auto_Counter") (record { passing = passing.Reference; name = codes "x"; ty = (ty.named (codes "Counter" ∷ [])) } ∷ []) (ty.named (codes "Counter" ∷ []));
  prologue = [];
  lines = if_head (binary op.Is (path (codes "x" ∷ [])) nothing) ∷ assign (path (codes "x" ∷ [])) (new_object (ty.named (codes "Counter" ∷ [])) no_exps) ∷ end_if ∷ assign (path (codes "Auto_Counter" ∷ [])) (path (codes "x" ∷ [])) ∷ [];
  close = close.EndFunction;
}

auto_counter_text : procedure_text 1 the_auto_counter ≡ text_of (codes "    Public Function Auto_Counter(ByRef x As Counter) As Counter" ∷ codes "        If (x Is Nothing) Then" ∷ codes "            x = New Counter()" ∷ codes "        End If" ∷ codes "        Auto_Counter = x" ∷ codes "    End Function" ∷ [])
unfolding digits is_bracketed
auto_counter_text = refl

abbrev the_new1 : Procedure
the_new1 = record {
  head = function Public (codes "New1") [] (ty.named (codes "Main1" ∷ codes "Row" ∷ []));
  prologue = local (record { name = codes "r"; ty = (ty.named (codes "Main1" ∷ codes "Row" ∷ [])); value = None }) ∷ [];
  lines = assign (path (codes "r" ∷ codes "Label" ∷ [])) (call_of (path (codes "FixNew" ∷ [])) (next_exp (lit (integer (pos 3) false)) no_exps)) ∷ assign (path (codes "r" ∷ codes "Cells" ∷ [])) (new_array ty.integer (next_exp (lit (integer (pos 9) false)) no_exps)) ∷ assign (path (codes "r" ∷ codes "Inner" ∷ [])) (call_of (path (codes "New2" ∷ [])) no_exps) ∷ assign (path (codes "New1" ∷ [])) (path (codes "r" ∷ [])) ∷ [];
  close = close.EndFunction;
}

new1_text : procedure_text 1 the_new1 ≡ text_of (codes "    Public Function New1() As Main1.Row" ∷ codes "        Dim r As Main1.Row" ∷ codes "        r.Label = FixNew(3)" ∷ codes "        r.Cells = New Integer(9) {}" ∷ codes "        r.Inner = New2()" ∷ codes "        New1 = r" ∷ codes "    End Function" ∷ [])
unfolding digits is_bracketed
new1_text = refl
