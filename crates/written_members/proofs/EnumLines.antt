-- The lines of an Enum, line by line.
use Rattle.std.proofs.Common.{◌≡◌, ℕ, suc, List, [], ◌∷◌, ◌++◌, refl, ap, ◌∙◌, append_assoc}
use Rattle.vb_tree.specs.Tree as source
use Rattle.net_tree.specs.Tree as net
use Rattle.written_trees.specs.Comments.{Comment, up_to, past, texts}
use Rattle.written_trees.specs.DeclaredMembers.{enum_from, is_standard, member_comments, statement_comments}
use Rattle.written_trees.specs.Names.{Scope}
use Rattle.written_members.specs.Groups.{enum_constants_if, enum_lines}

grouped : (a b c : List net.Member) {r s : List net.Member} → r ≡ s → (a ++ (b ++ c)) ++ r ≡ a ++ (b ++ (c ++ s))
grouped a b c {r} h = append_assoc a (b ++ c) r ∙ ap (λ xs. a ++ xs) (append_assoc b c r ∙ ap (λ xs. b ++ (c ++ xs)) h)

pub enum_lines_are : (S : Scope) (cs : List Comment) (n : ℕ) (ls : List source.Line) → enum_lines S (is_standard S) cs n ls ≡ enum_from S cs n ls
enum_lines_are S cs n [] = refl
enum_lines_are S cs n (l ∷ ls) =
    grouped (member_comments (texts (up_to l.place.line cs))) (member_comments (statement_comments S n l)) (enum_constants_if S (is_standard S) n)
    (enum_lines_are S (past l.place.line cs) (suc n) ls)
