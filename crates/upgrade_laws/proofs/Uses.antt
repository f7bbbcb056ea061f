-- What a line uses passes the test for what it mentions.
use Rattle.std.proofs.Common.{◌≡◌, zero, suc, Bool, true, List, [], ◌∷◌, ap, ◌∙◌, arith}
use Rattle.std.specs.List.{Contains, list_any}
use Rattle.vb_tree.specs.BoundTree.{Ty}
use Rattle.vb_tree.specs.declared.declared.VarId.{VarId}
use Rattle.bound_tree.specs.declared.body.Mention.{Mention}
use Rattle.bound_tree.specs.declared.body.Mention.TheVariants as mention
use Rattle.bound_tree.specs.Tree.{Line, typed, variable}
use Rattle.bound_facts.specs.Nodes.{line_nodes}
use Rattle.run_matches.specs.CoveredVariables.{is_mention_of}
use Rattle.upgrade_laws.specs.Mentioned.{MentionsVariables}
use Rattle.upgrade_laws.proofs.Tests.{first_any, later_any, same}
use Rattle.upgrade_laws.proofs.Lists.{in_none}

mention_found : (v : VarId) (ms : List Mention) → Contains ms (mention.Var v) → list_any (is_mention_of v) ms ≡ true
mention_found v [] i = absurd (in_none (mention.Var v) i)
mention_found v (m ∷ ms) (zero, l, e) = first_any (is_mention_of v m) (list_any (is_mention_of v) ms) (ap (is_mention_of v) e ∙ same v.0)
mention_found v (m ∷ ms) (suc k, l, e) = later_any (is_mention_of v m) (list_any (is_mention_of v) ms) (mention_found v ms (k, omega (arith, l), e))

pub uses_are_mentioned : (l : Line) → MentionsVariables l → (v : VarId) (ty : Ty) (qualified : Bool) → Contains (line_nodes l) (typed ty (variable v qualified))
    → list_any (is_mention_of v) l.bindings.mentions ≡ true
uses_are_mentioned l h v ty qualified i = mention_found v l.bindings.mentions (h v ty qualified i)
