-- What is read is passed on behind a Box.
use Rattle.std.specs.Prelude.{◌≡◌, List, map, Option, option_and_then, codes, Result, Ok, Err}
use Rattle.vb_tree.specs.declared.token.Token.{Token}
use Rattle.vb_tree.specs.View.{form_of}
use Rattle.form_parts.specs.declared.answer.PartFail.{PartFail}
use Rattle.form_parts.specs.declared.answer.PartFail.TheVariants as part
use Rattle.statement_forms.specs.declared.pieces.FormFail.TheVariants as statement
use Rattle.statement_forms.specs.declared.pieces.FormFail as statement_fail
use Rattle.statement_forms.specs.declared.pieces.Piece as statement_piece
use Rattle.statement_forms.specs.Fronts.{behind_key, before_then}
use Rattle.vb_lines.specs.declared.forms.FormFail.{FormFail}
use Rattle.vb_lines.specs.declared.forms.FormFail.TheVariants as fail
use Rattle.vb_lines.specs.declared.forms.Piece.{Piece}
use Rattle.vb_lines.specs.Forms.{PlainPiece, piece_of}

-- what is made of something that was read, or want of memory
abbrev pub MadeOf : {A B : Type 0} → (A → B → Type 0) → A → Result B FormFail → Type 0
MadeOf R a (Ok b) = R a b
MadeOf R a (Err fail.NoForm) = ⊥
MadeOf R a (Err fail.TooDeep) = ⊥
MadeOf R a (Err fail.Mem) = Unit {0}

-- what is made of a part that was read, or the part's failure
abbrev pub Passes : {A B : Type 0} → (A → B → Type 0) → Result A PartFail → Result B FormFail → Type 0
Passes R (Ok a) r = MadeOf R a r
Passes R (Err part.NotFound) r = r ≡ Err fail.NoForm
Passes R (Err part.TooDeep) r = r ≡ Err fail.TooDeep
Passes R (Err part.Mem) r = r ≡ Err fail.Mem

abbrev pub plain_piece : statement_piece.Piece → PlainPiece
plain_piece p = record { form = form_of p.form; start = p.from; end = p.to }

-- the code lines that were read, or the failure of a statement without its number
abbrev pub PassesAll : {A : Type 0} → (A → PlainPiece) → Result (List A) statement_fail.FormFail → Result (List Piece) FormFail → Type 0
PassesAll plain (Ok xs) r = MadeOf (λ xs pieces. map piece_of pieces ≡ map plain xs) xs r
PassesAll plain (Err (statement.NoForm k)) r = r ≡ Err fail.NoForm
PassesAll plain (Err (statement.TooDeep k)) r = r ≡ Err fail.TooDeep
PassesAll plain (Err statement.Mem) r = r ≡ Err fail.Mem

-- the tokens between If and Then
abbrev pub enclosed : List Token → Option (List Token)
enclosed tokens = option_and_then before_then (behind_key (codes "if") tokens)
