-- What the types of the code stand for in the definition of a line's content.
use Rattle.std.specs.Prelude.{◌≡◌, ℕ, ◌<◌, ◌≤◌, List, ◌++◌, map, reverse}
use Rattle.vb_tree.specs.declared.token.Token.{Token}
use Rattle.vb_tree.specs.declared.token.TokenKind.{TokenKind}
use Rattle.vb_tree.specs.LogicalLines.{Part, gap, note, lexeme, stuck, Content, begins_statement, has_if, last_is_access, is_nil}
use Rattle.vb_lexer.specs.declared.content.Before.{Before}
use Rattle.vb_lexer.specs.declared.content.Part.TheVariants as code
use Rattle.vb_lexer.specs.declared.content.Part as the_part
use Rattle.vb_lexer.specs.declared.content.Content as code_content

-- the tokens before a place, the last one first
pub record IsBefore (before : Before) (tokens : List TokenKind) : Type 0 where
  pub statement : before.statement ≡ begins_statement tokens
  pub has_if : before.has_if ≡ has_if tokens
  pub access : before.access ≡ last_is_access tokens
  pub none : before.none ≡ is_nil tokens

abbrev pub part_of : the_part.Part → Part
part_of code.Gap = gap
part_of (code.Note units) = note units
part_of (code.Lexeme kind units) = lexeme kind units
part_of code.Stuck = stuck

abbrev pub IsPartWithin : ℕ → the_part.Part → Type 0
IsPartWithin most code.Gap = Unit {0}
IsPartWithin most (code.Note units) = units ≤ most
IsPartWithin most (code.Lexeme kind units) = (0 < units) × (units ≤ most)
IsPartWithin most code.Stuck = Unit {0}

abbrev pub content_of : code_content.Content → Content
content_of c = record { tokens = c.tokens; comment = c.comment; stop = c.stop }

-- the kinds of tokens, the last one first
abbrev pub kinds_back : List Token → List TokenKind
kinds_back tokens = reverse (map (λ t. t.kind) tokens)

-- a content with tokens before it
abbrev pub with_front : List Token → Content → Content
with_front tokens content = record content { tokens = tokens ++ content.tokens }
