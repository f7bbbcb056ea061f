-- Lines that were cut by hand.
use Rattle.std.proofs.Common.{◌≡◌, ℕ, List, [], ◌∷◌, codes, refl, pos, false}
use Rattle.vb_tree.specs.declared.token.Literal6.TheVariants as literal
use Rattle.vb_tree.specs.declared.token.Sign.TheVariants as sign
use Rattle.vb_tree.specs.declared.token.Suffix.TheVariants as suffix
use Rattle.vb_tree.specs.declared.token.Token.{Token}
use Rattle.vb_tree.specs.declared.token.TokenKind.{TokenKind}
use Rattle.vb_tree.specs.declared.token.TokenKind.TheVariants as kind
use Rattle.vb_tree.specs.Expressions.{keyword_of}
use Rattle.vb_lines.specs.Statements.{label_cut, statement_cut, head_cut, jump_cut, else_cut, stray_cut, end_cut, line_cuts}

abbrev token : TokenKind → Token
token k = record { kind = k; line = 1; «from» = 0; to = 0 }

abbrev word : List ℕ → Token
word name = token (kind.Word name suffix.Absent)

abbrev a : Token
a = word (codes "a")

abbrev b : Token
b = word (codes "b")

abbrev x : Token
x = word (codes "x")

abbrev y : Token
y = word (codes "y")

abbrev if_word : Token
if_word = word (codes "If")

abbrev then_word : Token
then_word = word (codes "Then")

abbrev else_word : Token
else_word = word (codes "Else")

abbrev colon : Token
colon = token (kind.Sign sign.Colon)

abbrev dot : Token
dot = token (kind.Sign sign.Dot)

abbrev ten : Token
ten = token (kind.Lit (literal.Int (pos 10) false))

-- `a: x : : y`
labelled : line_cuts (a ∷ colon ∷ x ∷ colon ∷ colon ∷ y ∷ []) ≡ label_cut a ∷ statement_cut (x ∷ []) ∷ statement_cut (y ∷ []) ∷ []
unfolding keyword_of
labelled = refl

-- `If a Then If b Then x Else y`: the Else is the inner one's
nested : line_cuts (if_word ∷ a ∷ then_word ∷ if_word ∷ b ∷ then_word ∷ x ∷ else_word ∷ y ∷ []) ≡ head_cut (if_word ∷ a ∷ then_word ∷ []) ∷ head_cut (if_word ∷ b ∷ then_word ∷ []) ∷ statement_cut (x ∷ []) ∷ else_cut else_word ∷ statement_cut (y ∷ []) ∷ end_cut ∷ end_cut ∷ []
unfolding keyword_of
nested = refl

-- `If a Then 10 Else`, `If a Then 10: x` and `If a Then:`
jumping : line_cuts (if_word ∷ a ∷ then_word ∷ ten ∷ else_word ∷ []) ≡ head_cut (if_word ∷ a ∷ then_word ∷ []) ∷ jump_cut ten ∷ else_cut else_word ∷ end_cut ∷ []
unfolding keyword_of
jumping = refl

no_jump : line_cuts (if_word ∷ a ∷ then_word ∷ ten ∷ colon ∷ x ∷ []) ≡ head_cut (if_word ∷ a ∷ then_word ∷ []) ∷ statement_cut (ten ∷ []) ∷ statement_cut (x ∷ []) ∷ end_cut ∷ []
unfolding keyword_of
no_jump = refl

opens_block : line_cuts (if_word ∷ a ∷ then_word ∷ colon ∷ []) ≡ statement_cut (if_word ∷ a ∷ then_word ∷ []) ∷ []
unfolding keyword_of
opens_block = refl

-- `If a.Then Then: x`: behind a full stop Then is a name
name_behind_dot : line_cuts (if_word ∷ a ∷ dot ∷ then_word ∷ then_word ∷ colon ∷ x ∷ []) ≡ head_cut (if_word ∷ a ∷ dot ∷ then_word ∷ then_word ∷ []) ∷ statement_cut (x ∷ []) ∷ end_cut ∷ []
unfolding keyword_of
name_behind_dot = refl

-- `If a Then x Else y Else b`: the second Else is nobody's
second_else : line_cuts (if_word ∷ a ∷ then_word ∷ x ∷ else_word ∷ y ∷ else_word ∷ b ∷ []) ≡ head_cut (if_word ∷ a ∷ then_word ∷ []) ∷ statement_cut (x ∷ []) ∷ else_cut else_word ∷ statement_cut (y ∷ []) ∷ end_cut ∷ stray_cut else_word ∷ statement_cut (b ∷ []) ∷ []
unfolding keyword_of
second_else = refl

-- `If a Then If b Then x Else y Else`: the second Else ends the inner If
outer_else : line_cuts (if_word ∷ a ∷ then_word ∷ if_word ∷ b ∷ then_word ∷ x ∷ else_word ∷ y ∷ else_word ∷ []) ≡ head_cut (if_word ∷ a ∷ then_word ∷ []) ∷ head_cut (if_word ∷ b ∷ then_word ∷ []) ∷ statement_cut (x ∷ []) ∷ else_cut else_word ∷ statement_cut (y ∷ []) ∷ end_cut ∷ else_cut else_word ∷ end_cut ∷ []
unfolding keyword_of
outer_else = refl
