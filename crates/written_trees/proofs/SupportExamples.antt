-- The support functions that are written beside a module, worked out by hand.
use Rattle.std.proofs.Common.{◌≡◌, true, false, List, [], ◌∷◌, codes, refl}
use Rattle.std.specs.Fmt.{digits}
use Rattle.bound_tree.specs.RuleSets.{has, none, with_rule, both}
use Rattle.net_tree.specs.Declarations.{procedure_text}
use Rattle.net_tree.specs.Spelling.{is_bracketed}
use Rattle.net_tree.proofs.WrittenLines.{text_of}
use Rattle.net_tree.specs.Tree as net
use Rattle.support_text.specs.Errors.{the_not_upgraded, the_raise, the_err_clear}
use Rattle.written_trees.specs.Supports.{auto_function, new_function, copy_function, calls, is_used, leads_within}
use Rattle.written_trees.proofs.Sample.{declarations_with, facts_with, sample_basket}

abbrev basket_made : net.Procedure
basket_made = new_function (declarations_with [] []) (facts_with []) 0 sample_basket

abbrev basket_copied : net.Procedure
basket_copied = copy_function (declarations_with [] []) (facts_with []) 0 sample_basket

auto_text : procedure_text 1 (auto_function (declarations_with [] []) 0) ≡ text_of (
    codes "    Public Function Auto_Node(ByRef x As Node) As Node"
    ∷ codes "        If (x Is Nothing) Then"
    ∷ codes "            x = New Node()"
    ∷ codes "        End If"
    ∷ codes "        Auto_Node = x"
    ∷ codes "    End Function"
    ∷ [])
unfolding digits is_bracketed
auto_text = refl

new_text : procedure_text 1 basket_made ≡ text_of (
    codes "    Public Function New1() As Main1.Basket"
    ∷ codes "        Dim r As Main1.Basket"
    ∷ codes "        r.Items = New Integer(-1) {}"
    ∷ codes "        New1 = r"
    ∷ codes "    End Function"
    ∷ [])
unfolding digits is_bracketed none has both with_rule
new_text = refl

copy_text : procedure_text 1 basket_copied ≡ text_of (
    codes "    Public Function Copy1(ByVal x As Main1.Basket) As Main1.Basket"
    ∷ codes "        Dim r As Main1.Basket = x"
    ∷ codes "        r.Items = CType(x.Items.Clone(), Integer())"
    ∷ codes "        Copy1 = r"
    ∷ codes "    End Function"
    ∷ [])
unfolding digits is_bracketed none has both with_rule
copy_text = refl

-- NotUpgraded calls Raise, and leads to no other function
calls_raise : calls the_not_upgraded the_raise ≡ true
calls_raise = refl

calls_no_other : calls the_not_upgraded the_err_clear ≡ false
calls_no_other = refl

leads_by_one_call : leads_within (the_raise ∷ the_not_upgraded ∷ []) 1 the_not_upgraded the_raise ≡ true
leads_by_one_call = refl

-- a module that calls a function by its path uses it
abbrev module_with : List net.Line → List net.Module
module_with lines = record { name = codes "M"; class = false; members = net.proc (record basket_made { lines = lines }) ∷ [] } ∷ []

used : is_used (module_with (net.call (net.path (codes "UpgradeSupport" ∷ codes "NotUpgraded" ∷ [])) net.no_exps ∷ [])) the_not_upgraded ≡ true
used = refl

unused : is_used (module_with (net.call (net.path (codes "Other" ∷ codes "NotUpgraded" ∷ [])) net.no_exps ∷ [])) the_not_upgraded ≡ false
unused = refl
