-- The answers of parts of the reader.
use Rattle.std.specs.Prelude.{List, [], ◌∷◌, Option, Some, None}
use Rattle.up_base.specs.declared.place.Place.{Place}
use Rattle.vb_lines.specs.declared.class_head.HeadEnd.{HeadEnd}
use Rattle.vb_lines.specs.declared.class_head.HeadEnd.TheVariants as e
use Rattle.vb_lines.specs.Modules.{Head, ended, malformed, unended}
use Rattle.vb_lines.specs.Nesting.{Open}

abbrev pub head_end : HeadEnd → Head
head_end (e.Ended lines) = ended lines.now
head_end (e.Malformed place) = malformed place
head_end e.Unended = unended

-- the line that opened the innermost open block
abbrev pub unclosed_place : List Open → Option Place
unclosed_place [] = None
unclosed_place (o ∷ opens) = Some o.head.place
