-- What is written for a type.
use Rattle.std.specs.Prelude.{ℕ, Bool, false}
use Rattle.vb_tree.specs.BoundTree as vb
use Rattle.vb_tree.specs.BoundTree.{Ty}
use Rattle.bound_tree.specs.Tree.{Variable, Declarations}
use Rattle.net_tree.specs.Types.{TypeName}
use Rattle.net_tree.specs.Types as net
use Rattle.written_trees.specs.Facts.{Facts}
use Rattle.written_trees.specs.Names.{Scope, class_path, type_path}

-- a type in the module of a file; an array of it has a rank. What has no type is an Object.
abbrev pub type_with : Declarations → (file : ℕ) → (qualified : Bool) → (rank : ℕ) → Ty → TypeName
type_with D file qualified rank vb.boolean = net.boolean
type_with D file qualified rank vb.byte = net.byte
type_with D file qualified rank vb.integer = net.short
type_with D file qualified rank vb.long = net.integer
type_with D file qualified rank vb.currency = net.decimal
type_with D file qualified rank vb.str = net.str
type_with D file qualified rank (vb.fixed units) = net.str
type_with D file qualified rank (vb.user t) = net.named (type_path D file qualified t)
type_with D file qualified rank (vb.class c) = net.named (class_path D c)
type_with D file qualified rank vb.object = net.object
type_with D file qualified rank vb.variant = net.object
type_with D file qualified rank (vb.array element declared) = net.array_of (type_with D file qualified rank element) rank
type_with D file qualified rank vb.nothing = net.object
type_with D file qualified rank vb.unknown = net.object

-- a type that no declaration names there
abbrev pub written_type : Scope → Ty → TypeName
written_type S ty = type_with S.declarations S.file false 1 ty

-- the type in the declaration of a variable with a number, in the module of a file
abbrev pub variable_type : Declarations → Facts → (file variable : ℕ) → Variable → TypeName
variable_type D F file v x = type_with D file x.qualified (F.rank v) x.ty

abbrev pub element_type : Ty → Ty
element_type (vb.array element rank) = element
element_type ty = vb.unknown
