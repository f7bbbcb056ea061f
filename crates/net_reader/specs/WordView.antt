-- The word of the model that a word of the code stands for, and the words in groups.
use Rattle.std.specs.Prelude.{ℕ, List, [], ◌∷◌, codes, Option, Some, None}
use Rattle.net_reader.specs.declared.words.Word as code
use Rattle.net_reader.specs.declared.words.Word.TheVariants as c
use Rattle.net_reader.specs.Words as w

abbrev pub word_of : code.Word → w.Word
word_of c.If = w.if_word
word_of c.ElseIf = w.else_if_word
word_of c.Else = w.else_word
word_of c.End = w.end_word
word_of c.Select = w.select_word
word_of c.Case = w.case_word
word_of c.Is = w.is_word
word_of c.For = w.for_word
word_of c.Next = w.next_word
word_of c.Do = w.do_word
word_of c.Loop = w.loop_word
word_of c.While = w.while_word
word_of c.Until = w.until_word
word_of c.With = w.with_word
word_of c.GoTo = w.goto_word
word_of c.On = w.on_word
word_of c.Resume = w.resume_word
word_of c.Exit = w.exit_word
word_of c.ReDim = w.redim_word
word_of c.Preserve = w.preserve_word
word_of c.Dim = w.dim_word
word_of c.Static = w.static_word
word_of c.Const = w.const_word
word_of c.Public = w.public_word
word_of c.Private = w.private_word
word_of c.Friend = w.friend_word
word_of c.Sub = w.sub_word
word_of c.Function = w.function_word
word_of c.New = w.new_word
word_of c.Get = w.get_word
word_of c.Set = w.set_word
word_of c.Structure = w.structure_word
word_of c.Property = w.property_word
word_of c.ReadOnly = w.read_only_word
word_of c.WriteOnly = w.write_only_word
word_of c.Class = w.class_word
word_of c.Module = w.module_word
word_of c.Option = w.option_word
word_of c.ByVal = w.by_val_word
word_of c.ByRef = w.by_ref_word

-- the words of blocks
unfoldable pub block_words : List (List ℕ × w.Word)
block_words =
    (codes "If", w.if_word) ∷ (codes "ElseIf", w.else_if_word) ∷ (codes "Else", w.else_word) ∷ (codes "End", w.end_word) ∷ (codes "Select", w.select_word) ∷ (codes "Case", w.case_word) ∷ (codes "Is", w.is_word) ∷ []

-- the words of loops, and With
unfoldable pub loop_words : List (List ℕ × w.Word)
loop_words =
    (codes "For", w.for_word) ∷ (codes "Next", w.next_word) ∷ (codes "Do", w.do_word) ∷ (codes "Loop", w.loop_word) ∷ (codes "While", w.while_word) ∷ (codes "Until", w.until_word) ∷ (codes "With", w.with_word) ∷ []

-- the words of jumps and arrays
unfoldable pub jump_words : List (List ℕ × w.Word)
jump_words =
    (codes "GoTo", w.goto_word) ∷ (codes "On", w.on_word) ∷ (codes "Resume", w.resume_word) ∷ (codes "Exit", w.exit_word) ∷ (codes "ReDim", w.redim_word) ∷ (codes "Preserve", w.preserve_word) ∷ []

-- the words of variables and procedures
unfoldable pub procedure_words : List (List ℕ × w.Word)
procedure_words =
    (codes "Dim", w.dim_word) ∷ (codes "Static", w.static_word) ∷ (codes "Const", w.const_word) ∷ (codes "Public", w.public_word) ∷ (codes "Private", w.private_word) ∷ (codes "Friend", w.friend_word) ∷ (codes "Sub", w.sub_word) ∷ (codes "Function", w.function_word) ∷ (codes "Get", w.get_word) ∷ (codes "Set", w.set_word) ∷ []

-- the words of structures, properties, modules and parameters
unfoldable pub type_words : List (List ℕ × w.Word)
type_words =
    (codes "Structure", w.structure_word) ∷ (codes "Property", w.property_word) ∷ (codes "ReadOnly", w.read_only_word) ∷ (codes "WriteOnly", w.write_only_word) ∷ (codes "Class", w.class_word) ∷ (codes "Module", w.module_word) ∷ (codes "Option", w.option_word) ∷ (codes "ByVal", w.by_val_word) ∷ (codes "ByRef", w.by_ref_word) ∷ []

-- the first of two that is there
abbrev pub first_of : {X : Type 0} → Option X → Option X → Option X
first_of (Some x) other = Some x
first_of None other = other
