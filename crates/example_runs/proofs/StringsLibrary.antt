-- The program strings-library, what it puts out and how it ends.
use Rattle.std.proofs.Common.{◌≡◌, refl, ◌++◌, List, ℤ, pos, Bool, true, false, [], ◌∷◌, codes, Some, None}
use Rattle.vb_tree.specs.declared.declared.VarId.{VarId}
use Rattle.bound_tree.specs.Tree as bound
use Rattle.net_tree.specs.Tree as net
use Rattle.net_tree.specs.Types as net_types
use Rattle.vb_tree.specs.BoundTree as types
use Rattle.vb_tree.specs.Tree as vb
use Rattle.vb_tree.specs.declared.expression.BinOp.TheVariants as bin
use Rattle.net_tree.specs.declared.expression.CastWord.TheVariants as cast
use Rattle.net_tree.specs.declared.declaration.NetClose.TheVariants as close
use Rattle.vb_tree.specs.declared.declared.ProcKind.TheVariants as kind
use Rattle.vb_tree.specs.declared.bound.LibCall.TheVariants as lib
use Rattle.vb_tree.specs.declared.token.Literal6.TheVariants as literal
use Rattle.bound_tree.specs.declared.body.Mention.TheVariants as mention
use Rattle.bound_tree.specs.declared.declared.Named.TheVariants as named
use Rattle.net_tree.specs.declared.expression.NetBin.TheVariants as net_bin
use Rattle.net_tree.specs.declared.declaration.NetPassing.TheVariants as net_passing
use Rattle.net_tree.specs.declared.declaration.NetVisibility.TheVariants as net_visible
use Rattle.bound_tree.specs.declared.expression.Origin.TheVariants as origin
use Rattle.vb_tree.specs.declared.declared.Owner.TheVariants as owner
use Rattle.vb_tree.specs.declared.project.ProjectKind.TheVariants as project_kind
use Rattle.bound_tree.specs.declared.declared.Scope.TheVariants as scope
use Rattle.vb_tree.specs.declared.token.Suffix.TheVariants as suffix
use Rattle.vb_tree.specs.declared.value.Value6.TheVariants as value
use Rattle.vb_tree.specs.declared.form_parts.VarWord.TheVariants as var
use Rattle.vb_tree.specs.declared.form_parts.Visibility.TheVariants as visible
use Rattle.std.specs.Fmt.{digits}
use Rattle.example_runs.proofs.Said.{ended, line, ran, ran_written, runnable_of}
use Rattle.vb6_run.specs.Runnables.{Runnable}

abbrev pub project : vb.Project
project = (record {
  file = (record {
    kind = project_kind.Exe;
    startup = (Some (3, (codes "Sub Main")));
    entries = ((record
        { line = 2; class = false; name = (codes "Main1"); file = (codes "Main1.bas") }) ∷ []);
    dropped = ([]);
  });
  modules = ((record {
    file = 1;
    name = (codes "Main1");
    class = false;
    members = (
        (vb.proc (record {
          place = (record { file = 1; line = 1 });
          text = (codes "Sub Main()");
          form = (vb.sub_head (record {
            visibility = None;
            name = (codes "Main");
            suffix = suffix.Absent;
            params = ([]);
          }));
        }) (vb.next_node
        (vb.line (record {
          place = (record { file = 1; line = 2 });
          text = (codes "Dim s As String");
          form = (vb.variables var.Dim
              ((record {
                name = (codes "s");
                suffix = suffix.Absent;
                bounds = None;
                auto = false;
                ty = (Some (vb.named (codes "String")));
              }) ∷ []));
        })) (vb.next_node
        (vb.line (record {
          place = (record { file = 1; line = 3 });
          text = (115 ∷ 32 ∷ 61 ∷ 32 ∷ 34 ∷ 32 ∷ 32 ∷ 72 ∷ 101 ∷ 108
              ∷ 108 ∷ 111 ∷ 44 ∷ 32 ∷ 87 ∷ 111 ∷ 114 ∷ 108 ∷ 100 ∷ 32 ∷ 32 ∷ 34 ∷ []);
          form = (vb.assign (vb.word (codes "s") suffix.Absent)
              (vb.lit (literal.Str (codes "  Hello, World  "))));
        })) (vb.next_node
        (vb.line (record {
          place = (record { file = 1; line = 4 });
          text = (68 ∷ 101 ∷ 98 ∷ 117 ∷ 103 ∷ 46 ∷ 80 ∷ 114 ∷ 105
              ∷ 110 ∷ 116 ∷ 32 ∷ 34 ∷ 91 ∷ 34 ∷ 32 ∷ 38 ∷ 32 ∷ 84 ∷ 114 ∷ 105 ∷ 109 ∷ 40 ∷ 115 ∷ 41 ∷ 32 ∷ 38 ∷ 32 ∷ 34 ∷ 93 ∷ 34 ∷
              59 ∷ 32 ∷ 34 ∷ 91 ∷ 34 ∷ 32 ∷ 38 ∷ 32 ∷ 76 ∷ 84 ∷ 114 ∷ 105 ∷ 109 ∷ 40 ∷ 115 ∷ 41 ∷ 32 ∷ 38 ∷ 32 ∷ 34 ∷ 93 ∷ 34 ∷ 59 ∷
              32 ∷ 34 ∷ 91 ∷ 34 ∷ 32 ∷ 38 ∷ 32 ∷ 82 ∷ 84 ∷ 114 ∷ 105 ∷ 109 ∷ 40 ∷ 115 ∷ 41 ∷ 32 ∷ 38 ∷ 32 ∷ 34 ∷ 93 ∷ 34 ∷ []);
          form
              = (vb.debug_print ((vb.binary bin.Concat (vb.binary bin.Concat (vb.lit (literal.Str (codes "["))) (vb.index (vb.word (codes
              "Trim") suffix.Absent) (vb.next_arg None false (vb.given (vb.word (codes "s") suffix.Absent)) vb.no_args))) (vb.lit (literal.Str
              (codes "]")))) ∷ (vb.binary bin.Concat (vb.binary bin.Concat (vb.lit (literal.Str (codes "["))) (vb.index (vb.word (codes
              "LTrim") suffix.Absent) (vb.next_arg None false (vb.given (vb.word (codes "s") suffix.Absent)) vb.no_args))) (vb.lit (literal.Str
              (codes "]")))) ∷ (vb.binary bin.Concat (vb.binary bin.Concat (vb.lit (literal.Str (codes "["))) (vb.index (vb.word (codes
              "RTrim") suffix.Absent) (vb.next_arg None false (vb.given (vb.word (codes "s") suffix.Absent)) vb.no_args))) (vb.lit (literal.Str
              (codes "]")))) ∷ []) false);
        })) (vb.next_node
        (vb.line (record {
          place = (record { file = 1; line = 5 });
          text = (codes "s = Trim(s)");
          form = (vb.assign (vb.word
              (codes "s") suffix.Absent) (vb.index (vb.word (codes "Trim") suffix.Absent) (vb.next_arg None false (vb.given (vb.word
              (codes "s") suffix.Absent)) vb.no_args)));
        })) (vb.next_node
        (vb.line (record {
          place = (record { file = 1; line = 6 });
          text = (codes "Debug.Print Left(s, 5); Right(s, 5); Mid(s, 8); Mid(s, 1, 4); Mid(s, 100); Left(s, 100)");
          form = (vb.debug_print ((vb.index (vb.word (codes "Left") suffix.Absent) (vb.next_arg None false (vb.given (vb.word (codes
              "s") suffix.Absent)) (vb.next_arg None false (vb.given (vb.lit (literal.Int (pos 5) false))) vb.no_args))) ∷ (vb.index
              (vb.word (codes "Right") suffix.Absent) (vb.next_arg None false (vb.given (vb.word (codes "s") suffix.Absent)) (vb.next_arg
              None false (vb.given (vb.lit (literal.Int (pos 5) false))) vb.no_args))) ∷ (vb.index (vb.word (codes "Mid") suffix.Absent)
              (vb.next_arg None false (vb.given (vb.word (codes "s") suffix.Absent)) (vb.next_arg None false (vb.given (vb.lit (literal.Int
              (pos 8) false))) vb.no_args))) ∷ (vb.index (vb.word (codes "Mid") suffix.Absent) (vb.next_arg None false (vb.given (vb.word
              (codes "s") suffix.Absent)) (vb.next_arg None false (vb.given (vb.lit (literal.Int (pos 1) false))) (vb.next_arg None
              false (vb.given (vb.lit (literal.Int (pos 4) false))) vb.no_args)))) ∷ (vb.index (vb.word (codes "Mid") suffix.Absent)
              (vb.next_arg None false (vb.given (vb.word (codes "s") suffix.Absent)) (vb.next_arg None false (vb.given (vb.lit (literal.Int
              (pos 100) false))) vb.no_args))) ∷ (vb.index (vb.word (codes "Left") suffix.Absent) (vb.next_arg None false (vb.given
              (vb.word (codes "s") suffix.Absent)) (vb.next_arg None false (vb.given (vb.lit (literal.Int (pos 100) false))) vb.no_args)))
              ∷ []) false);
        })) (vb.next_node
        (vb.line (record {
          place = (record { file = 1; line = 7 });
          text = (codes "Debug.Print UCase(s); LCase(s); Len(s)");
          form = (vb.debug_print ((vb.index (vb.word (codes "UCase") suffix.Absent) (vb.next_arg None false (vb.given (vb.word (codes
              "s") suffix.Absent)) vb.no_args)) ∷ (vb.index (vb.word (codes "LCase") suffix.Absent) (vb.next_arg None false (vb.given
              (vb.word (codes "s") suffix.Absent)) vb.no_args)) ∷ (vb.index (vb.word (codes "Len") suffix.Absent) (vb.next_arg None
              false (vb.given (vb.word (codes "s") suffix.Absent)) vb.no_args)) ∷ []) false);
        })) (vb.next_node
        (vb.line (record {
          place = (record { file = 1; line = 8 });
          text = (68 ∷ 101 ∷ 98 ∷ 117 ∷ 103 ∷ 46 ∷ 80 ∷ 114 ∷ 105
              ∷ 110 ∷ 116 ∷ 32 ∷ 73 ∷ 110 ∷ 83 ∷ 116 ∷ 114 ∷ 40 ∷ 115 ∷ 44 ∷ 32 ∷ 34 ∷ 111 ∷ 34 ∷ 41 ∷ 59 ∷ 32 ∷ 73 ∷ 110 ∷ 83 ∷ 116
              ∷ 114 ∷ 40 ∷ 115 ∷ 44 ∷ 32 ∷ 34 ∷ 87 ∷ 111 ∷ 114 ∷ 108 ∷ 100 ∷ 34 ∷ 41 ∷ 59 ∷ 32 ∷ 73 ∷ 110 ∷ 83 ∷ 116 ∷ 114 ∷ 40 ∷ 115
              ∷ 44 ∷ 32 ∷ 34 ∷ 120 ∷ 34 ∷ 41 ∷ 59 ∷ 32 ∷ 73 ∷ 110 ∷ 83 ∷ 116 ∷ 114 ∷ 40 ∷ 115 ∷ 44 ∷ 32 ∷ 34 ∷ 34 ∷ 41 ∷ 59 ∷ 32 ∷ 73
              ∷ 110 ∷ 83 ∷ 116 ∷ 114 ∷ 40 ∷ 34 ∷ 34 ∷ 44 ∷ 32 ∷ 34 ∷ 97 ∷ 34 ∷ 41 ∷ 59 ∷ 32 ∷ 73 ∷ 110 ∷ 83 ∷ 116 ∷ 114 ∷ 40 ∷ 34 ∷
              34 ∷ 44 ∷ 32 ∷ 34 ∷ 34 ∷ 41 ∷ []);
          form = (vb.debug_print ((vb.index (vb.word (codes "InStr") suffix.Absent) (vb.next_arg
              None false (vb.given (vb.word (codes "s") suffix.Absent)) (vb.next_arg None false (vb.given (vb.lit (literal.Str (codes
              "o")))) vb.no_args))) ∷ (vb.index (vb.word (codes "InStr") suffix.Absent) (vb.next_arg None false (vb.given (vb.word (codes
              "s") suffix.Absent)) (vb.next_arg None false (vb.given (vb.lit (literal.Str (codes "World")))) vb.no_args))) ∷ (vb.index
              (vb.word (codes "InStr") suffix.Absent) (vb.next_arg None false (vb.given (vb.word (codes "s") suffix.Absent)) (vb.next_arg
              None false (vb.given (vb.lit (literal.Str (codes "x")))) vb.no_args))) ∷ (vb.index (vb.word (codes "InStr") suffix.Absent)
              (vb.next_arg None false (vb.given (vb.word (codes "s") suffix.Absent)) (vb.next_arg None false (vb.given (vb.lit (literal.Str
              []))) vb.no_args))) ∷ (vb.index (vb.word (codes "InStr") suffix.Absent) (vb.next_arg None false (vb.given (vb.lit (literal.Str
              []))) (vb.next_arg None false (vb.given (vb.lit (literal.Str (codes "a")))) vb.no_args))) ∷ (vb.index (vb.word (codes
              "InStr") suffix.Absent) (vb.next_arg None false (vb.given (vb.lit (literal.Str []))) (vb.next_arg None false (vb.given
              (vb.lit (literal.Str []))) vb.no_args))) ∷ []) false);
        })) (vb.next_node
        (vb.line (record {
          place = (record { file = 1; line = 9 });
          text = (68 ∷ 101 ∷ 98 ∷ 117 ∷ 103 ∷ 46 ∷ 80 ∷ 114 ∷ 105
              ∷ 110 ∷ 116 ∷ 32 ∷ 65 ∷ 115 ∷ 99 ∷ 40 ∷ 115 ∷ 41 ∷ 59 ∷ 32 ∷ 67 ∷ 104 ∷ 114 ∷ 40 ∷ 55 ∷ 50 ∷ 41 ∷ 59 ∷ 32 ∷ 34 ∷ 91 ∷
              34 ∷ 32 ∷ 38 ∷ 32 ∷ 83 ∷ 112 ∷ 97 ∷ 99 ∷ 101 ∷ 40 ∷ 51 ∷ 41 ∷ 32 ∷ 38 ∷ 32 ∷ 34 ∷ 93 ∷ 34 ∷ []);
          form = (vb.debug_print
              ((vb.index (vb.word (codes "Asc") suffix.Absent) (vb.next_arg None false (vb.given (vb.word (codes "s") suffix.Absent))
              vb.no_args)) ∷ (vb.index (vb.word (codes "Chr") suffix.Absent) (vb.next_arg None false (vb.given (vb.lit (literal.Int
              (pos 72) false))) vb.no_args)) ∷ (vb.binary bin.Concat (vb.binary bin.Concat (vb.lit (literal.Str (codes "["))) (vb.index
              (vb.word (codes "Space") suffix.Absent) (vb.next_arg None false (vb.given (vb.lit (literal.Int (pos 3) false))) vb.no_args)))
              (vb.lit (literal.Str (codes "]")))) ∷ []) false);
        })) vb.no_nodes)))))))) (record {
          place = (record {
            file = 1;
            line =
                10;
          });
          text = (codes "End Sub");
          form = vb.end_sub;
        })) ∷ []);
    comments = ([]);
  }) ∷ []);
})

abbrev pub declarations : bound.Declarations
declarations = (record {
  project = project;
  names = (
      (record { name = (codes "Main"); scope = (scope.Public 1); named = (named.Proc (record { 0 = 0 })) }) ∷
      (record { name = (codes "s"); scope = (scope.Local (record { 0 = 0 })); named = (named.Var (record { 0 = 0 })) }) ∷ []);
  vars = (
      (record {
        name = (codes "s");
        place = (record { file = 1; line = 2 });
        statement = 1;
        owner = (owner.Local (record {
          0
              = 0;
        }));
        ty = types.str;
        named = types.str;
        qualified = false;
        lettered = None;
        bounds = ([]);
        auto = false;
        preset =
            None;
      }) ∷ []);
  consts = ([]);
  procs = (
      (record {
        name = (codes "Main");
        place = (record { file = 1; line = 1 });
        module_number = 1;
        kind = kind.Sub;
        visibility
            = visible.Public;
        params = ([]);
        result = types.nothing;
        answer = None;
        first = (record { 0 = 0 });
      }) ∷ []);
  types = ([]);
  enums = ([]);
  defaults = ([]);
})

abbrev pub body_0 : List bound.Line
body_0 = (
    (record {
      source = (record {
        place = (record { file = 1; line = 3 });
        text = (115 ∷ 32 ∷ 61 ∷ 32 ∷ 34 ∷ 32 ∷ 32 ∷ 72 ∷
            101 ∷ 108 ∷ 108 ∷ 111 ∷ 44 ∷ 32 ∷ 87 ∷ 111 ∷ 114 ∷ 108 ∷ 100 ∷ 32 ∷ 32 ∷ 34 ∷ []);
        form = (vb.assign (vb.word (codes "s")
            suffix.Absent) (vb.lit (literal.Str (codes "  Hello, World  "))));
      });
      bindings = (record {
        exprs = ((bound.typed types.str
            (bound.variable (record { 0 = 0 }) false)) ∷ (bound.typed types.str (bound.constant (value.Str (codes "  Hello, World  "))
            origin.Literal)) ∷ []);
        rules = (record { bits = 0 });
        mentions = ((mention.Var (record { 0 = 0 })) ∷ []);
      });
    }) ∷
    (record {
      source = (record {
        place = (record { file = 1; line = 4 });
        text = (68 ∷ 101 ∷ 98 ∷ 117 ∷ 103 ∷ 46 ∷ 80 ∷ 114
            ∷ 105 ∷ 110 ∷ 116 ∷ 32 ∷ 34 ∷ 91 ∷ 34 ∷ 32 ∷ 38 ∷ 32 ∷ 84 ∷ 114 ∷ 105 ∷ 109 ∷ 40 ∷ 115 ∷ 41 ∷ 32 ∷ 38 ∷ 32 ∷ 34 ∷ 93 ∷
            34 ∷ 59 ∷ 32 ∷ 34 ∷ 91 ∷ 34 ∷ 32 ∷ 38 ∷ 32 ∷ 76 ∷ 84 ∷ 114 ∷ 105 ∷ 109 ∷ 40 ∷ 115 ∷ 41 ∷ 32 ∷ 38 ∷ 32 ∷ 34 ∷ 93 ∷ 34 ∷
            59 ∷ 32 ∷ 34 ∷ 91 ∷ 34 ∷ 32 ∷ 38 ∷ 32 ∷ 82 ∷ 84 ∷ 114 ∷ 105 ∷ 109 ∷ 40 ∷ 115 ∷ 41 ∷ 32 ∷ 38 ∷ 32 ∷ 34 ∷ 93 ∷ 34 ∷ []);
        form = (vb.debug_print ((vb.binary bin.Concat (vb.binary bin.Concat (vb.lit (literal.Str (codes "["))) (vb.index (vb.word
            (codes "Trim") suffix.Absent) (vb.next_arg None false (vb.given (vb.word (codes "s") suffix.Absent)) vb.no_args))) (vb.lit
            (literal.Str (codes "]")))) ∷ (vb.binary bin.Concat (vb.binary bin.Concat (vb.lit (literal.Str (codes "["))) (vb.index
            (vb.word (codes "LTrim") suffix.Absent) (vb.next_arg None false (vb.given (vb.word (codes "s") suffix.Absent)) vb.no_args)))
            (vb.lit (literal.Str (codes "]")))) ∷ (vb.binary bin.Concat (vb.binary bin.Concat (vb.lit (literal.Str (codes "["))) (vb.index
            (vb.word (codes "RTrim") suffix.Absent) (vb.next_arg None false (vb.given (vb.word (codes "s") suffix.Absent)) vb.no_args)))
            (vb.lit (literal.Str (codes "]")))) ∷ []) false);
      });
      bindings = (record {
        exprs = ((bound.typed types.str (bound.binary
            bin.Concat (bound.typed types.str (bound.binary bin.Concat (bound.typed types.str (bound.constant (value.Str (codes "["))
            origin.Literal)) (bound.typed types.str (bound.library lib.Trim (bound.next_expr (bound.typed types.str (bound.variable
            (record { 0 = 0 }) false)) bound.no_exprs))))) (bound.typed types.str (bound.constant (value.Str (codes "]")) origin.Literal))))
            ∷ (bound.typed types.str (bound.binary bin.Concat (bound.typed types.str (bound.binary bin.Concat (bound.typed types.str
            (bound.constant (value.Str (codes "[")) origin.Literal)) (bound.typed types.str (bound.library lib.LTrim (bound.next_expr
            (bound.typed types.str (bound.variable (record { 0 = 0 }) false)) bound.no_exprs))))) (bound.typed types.str (bound.constant
            (value.Str (codes "]")) origin.Literal)))) ∷ (bound.typed types.str (bound.binary bin.Concat (bound.typed types.str (bound.binary
            bin.Concat (bound.typed types.str (bound.constant (value.Str (codes "[")) origin.Literal)) (bound.typed types.str (bound.library
            lib.RTrim (bound.next_expr (bound.typed types.str (bound.variable (record { 0 = 0 }) false)) bound.no_exprs))))) (bound.typed
            types.str (bound.constant (value.Str (codes "]")) origin.Literal)))) ∷ []);
        rules = (record { bits = 0 });
        mentions =
            ((mention.Var (record { 0 = 0 })) ∷ (mention.Var (record { 0 = 0 })) ∷ (mention.Var (record { 0 = 0 })) ∷ []);
      });
    }) ∷
    (record {
      source = (record {
        place = (record { file = 1; line = 5 });
        text = (codes "s = Trim(s)");
        form = (vb.assign
            (vb.word (codes "s") suffix.Absent) (vb.index (vb.word (codes "Trim") suffix.Absent) (vb.next_arg None false (vb.given
            (vb.word (codes "s") suffix.Absent)) vb.no_args)));
      });
      bindings = (record {
        exprs = ((bound.typed types.str (bound.variable
            (record { 0 = 0 }) false)) ∷ (bound.typed types.str (bound.library lib.Trim (bound.next_expr (bound.typed types.str (bound.variable
            (record { 0 = 0 }) false)) bound.no_exprs))) ∷ []);
        rules = (record { bits = 0 });
        mentions = ((mention.Var (record {
          0 = 0;
        })) ∷ (mention.Var (record { 0 = 0 })) ∷ []);
      });
    }) ∷
    (record {
      source = (record {
        place = (record { file = 1; line = 6 });
        text = (codes "Debug.Print Left(s, 5); Right(s, 5); Mid(s, 8); Mid(s, 1, 4); Mid(s, 100); Left(s, 100)");
        form = (vb.debug_print ((vb.index (vb.word (codes "Left") suffix.Absent) (vb.next_arg None false (vb.given (vb.word (codes
            "s") suffix.Absent)) (vb.next_arg None false (vb.given (vb.lit (literal.Int (pos 5) false))) vb.no_args))) ∷ (vb.index
            (vb.word (codes "Right") suffix.Absent) (vb.next_arg None false (vb.given (vb.word (codes "s") suffix.Absent)) (vb.next_arg
            None false (vb.given (vb.lit (literal.Int (pos 5) false))) vb.no_args))) ∷ (vb.index (vb.word (codes "Mid") suffix.Absent)
            (vb.next_arg None false (vb.given (vb.word (codes "s") suffix.Absent)) (vb.next_arg None false (vb.given (vb.lit (literal.Int
            (pos 8) false))) vb.no_args))) ∷ (vb.index (vb.word (codes "Mid") suffix.Absent) (vb.next_arg None false (vb.given (vb.word
            (codes "s") suffix.Absent)) (vb.next_arg None false (vb.given (vb.lit (literal.Int (pos 1) false))) (vb.next_arg None
            false (vb.given (vb.lit (literal.Int (pos 4) false))) vb.no_args)))) ∷ (vb.index (vb.word (codes "Mid") suffix.Absent)
            (vb.next_arg None false (vb.given (vb.word (codes "s") suffix.Absent)) (vb.next_arg None false (vb.given (vb.lit (literal.Int
            (pos 100) false))) vb.no_args))) ∷ (vb.index (vb.word (codes "Left") suffix.Absent) (vb.next_arg None false (vb.given
            (vb.word (codes "s") suffix.Absent)) (vb.next_arg None false (vb.given (vb.lit (literal.Int (pos 100) false))) vb.no_args)))
            ∷ []) false);
      });
      bindings = (record {
        exprs = ((bound.typed types.str (bound.library lib.Left (bound.next_expr (bound.typed
            types.str (bound.variable (record { 0 = 0 }) false)) (bound.next_expr (bound.typed types.long (bound.convert types.long
            (bound.typed types.integer (bound.constant (value.Int (pos 5)) origin.Literal)))) bound.no_exprs)))) ∷ (bound.typed types.str
            (bound.library lib.Right (bound.next_expr (bound.typed types.str (bound.variable (record { 0 = 0 }) false)) (bound.next_expr
            (bound.typed types.long (bound.convert types.long (bound.typed types.integer (bound.constant (value.Int (pos 5)) origin.Literal))))
            bound.no_exprs)))) ∷ (bound.typed types.str (bound.library lib.Mid (bound.next_expr (bound.typed types.str (bound.variable
            (record { 0 = 0 }) false)) (bound.next_expr (bound.typed types.long (bound.convert types.long (bound.typed types.integer
            (bound.constant (value.Int (pos 8)) origin.Literal)))) bound.no_exprs)))) ∷ (bound.typed types.str (bound.library lib.Mid
            (bound.next_expr (bound.typed types.str (bound.variable (record { 0 = 0 }) false)) (bound.next_expr (bound.typed types.long
            (bound.convert types.long (bound.typed types.integer (bound.constant (value.Int (pos 1)) origin.Literal)))) (bound.next_expr
            (bound.typed types.long (bound.convert types.long (bound.typed types.integer (bound.constant (value.Int (pos 4)) origin.Literal))))
            bound.no_exprs))))) ∷ (bound.typed types.str (bound.library lib.Mid (bound.next_expr (bound.typed types.str (bound.variable
            (record { 0 = 0 }) false)) (bound.next_expr (bound.typed types.long (bound.convert types.long (bound.typed types.integer
            (bound.constant (value.Int (pos 100)) origin.Literal)))) bound.no_exprs)))) ∷ (bound.typed types.str (bound.library lib.Left
            (bound.next_expr (bound.typed types.str (bound.variable (record { 0 = 0 }) false)) (bound.next_expr (bound.typed types.long
            (bound.convert types.long (bound.typed types.integer (bound.constant (value.Int (pos 100)) origin.Literal)))) bound.no_exprs))))
            ∷ []);
        rules = (record { bits = 0 });
        mentions = ((mention.Var (record { 0 = 0 })) ∷ (mention.Var (record { 0 = 0 }))
            ∷ (mention.Var (record { 0 = 0 })) ∷ (mention.Var (record { 0 = 0 })) ∷ (mention.Var (record { 0 = 0 })) ∷ (mention.Var
            (record { 0 = 0 })) ∷ []);
      });
    }) ∷
    (record {
      source = (record {
        place = (record { file = 1; line = 7 });
        text = (codes "Debug.Print UCase(s); LCase(s); Len(s)");
        form = (vb.debug_print ((vb.index (vb.word (codes "UCase") suffix.Absent) (vb.next_arg None false (vb.given (vb.word (codes
            "s") suffix.Absent)) vb.no_args)) ∷ (vb.index (vb.word (codes "LCase") suffix.Absent) (vb.next_arg None false (vb.given
            (vb.word (codes "s") suffix.Absent)) vb.no_args)) ∷ (vb.index (vb.word (codes "Len") suffix.Absent) (vb.next_arg None
            false (vb.given (vb.word (codes "s") suffix.Absent)) vb.no_args)) ∷ []) false);
      });
      bindings = (record {
        exprs = ((bound.typed
            types.str (bound.library lib.UCase (bound.next_expr (bound.typed types.str (bound.variable (record { 0 = 0 }) false))
            bound.no_exprs))) ∷ (bound.typed types.str (bound.library lib.LCase (bound.next_expr (bound.typed types.str (bound.variable
            (record { 0 = 0 }) false)) bound.no_exprs))) ∷ (bound.typed types.long (bound.library lib.Len (bound.next_expr (bound.typed
            types.str (bound.variable (record { 0 = 0 }) false)) bound.no_exprs))) ∷ []);
        rules = (record { bits = 0 });
        mentions
            = ((mention.Var (record { 0 = 0 })) ∷ (mention.Var (record { 0 = 0 })) ∷ (mention.Var (record { 0 = 0 })) ∷ []);
      });
    })
    ∷
    (record {
      source = (record {
        place = (record { file = 1; line = 8 });
        text = (68 ∷ 101 ∷ 98 ∷ 117 ∷ 103 ∷ 46 ∷ 80 ∷ 114
            ∷ 105 ∷ 110 ∷ 116 ∷ 32 ∷ 73 ∷ 110 ∷ 83 ∷ 116 ∷ 114 ∷ 40 ∷ 115 ∷ 44 ∷ 32 ∷ 34 ∷ 111 ∷ 34 ∷ 41 ∷ 59 ∷ 32 ∷ 73 ∷ 110 ∷ 83
            ∷ 116 ∷ 114 ∷ 40 ∷ 115 ∷ 44 ∷ 32 ∷ 34 ∷ 87 ∷ 111 ∷ 114 ∷ 108 ∷ 100 ∷ 34 ∷ 41 ∷ 59 ∷ 32 ∷ 73 ∷ 110 ∷ 83 ∷ 116 ∷ 114 ∷ 40
            ∷ 115 ∷ 44 ∷ 32 ∷ 34 ∷ 120 ∷ 34 ∷ 41 ∷ 59 ∷ 32 ∷ 73 ∷ 110 ∷ 83 ∷ 116 ∷ 114 ∷ 40 ∷ 115 ∷ 44 ∷ 32 ∷ 34 ∷ 34 ∷ 41 ∷ 59 ∷
            32 ∷ 73 ∷ 110 ∷ 83 ∷ 116 ∷ 114 ∷ 40 ∷ 34 ∷ 34 ∷ 44 ∷ 32 ∷ 34 ∷ 97 ∷ 34 ∷ 41 ∷ 59 ∷ 32 ∷ 73 ∷ 110 ∷ 83 ∷ 116 ∷ 114 ∷ 40
            ∷ 34 ∷ 34 ∷ 44 ∷ 32 ∷ 34 ∷ 34 ∷ 41 ∷ []);
        form = (vb.debug_print ((vb.index (vb.word (codes "InStr") suffix.Absent) (vb.next_arg
            None false (vb.given (vb.word (codes "s") suffix.Absent)) (vb.next_arg None false (vb.given (vb.lit (literal.Str (codes
            "o")))) vb.no_args))) ∷ (vb.index (vb.word (codes "InStr") suffix.Absent) (vb.next_arg None false (vb.given (vb.word (codes
            "s") suffix.Absent)) (vb.next_arg None false (vb.given (vb.lit (literal.Str (codes "World")))) vb.no_args))) ∷ (vb.index
            (vb.word (codes "InStr") suffix.Absent) (vb.next_arg None false (vb.given (vb.word (codes "s") suffix.Absent)) (vb.next_arg
            None false (vb.given (vb.lit (literal.Str (codes "x")))) vb.no_args))) ∷ (vb.index (vb.word (codes "InStr") suffix.Absent)
            (vb.next_arg None false (vb.given (vb.word (codes "s") suffix.Absent)) (vb.next_arg None false (vb.given (vb.lit (literal.Str
            []))) vb.no_args))) ∷ (vb.index (vb.word (codes "InStr") suffix.Absent) (vb.next_arg None false (vb.given (vb.lit (literal.Str
            []))) (vb.next_arg None false (vb.given (vb.lit (literal.Str (codes "a")))) vb.no_args))) ∷ (vb.index (vb.word (codes
            "InStr") suffix.Absent) (vb.next_arg None false (vb.given (vb.lit (literal.Str []))) (vb.next_arg None false (vb.given
            (vb.lit (literal.Str []))) vb.no_args))) ∷ []) false);
      });
      bindings = (record {
        exprs = ((bound.typed types.long (bound.library
            lib.InStr (bound.next_expr (bound.typed types.str (bound.variable (record { 0 = 0 }) false)) (bound.next_expr (bound.typed
            types.str (bound.constant (value.Str (codes "o")) origin.Literal)) bound.no_exprs)))) ∷ (bound.typed types.long (bound.library
            lib.InStr (bound.next_expr (bound.typed types.str (bound.variable (record { 0 = 0 }) false)) (bound.next_expr (bound.typed
            types.str (bound.constant (value.Str (codes "World")) origin.Literal)) bound.no_exprs)))) ∷ (bound.typed types.long (bound.library
            lib.InStr (bound.next_expr (bound.typed types.str (bound.variable (record { 0 = 0 }) false)) (bound.next_expr (bound.typed
            types.str (bound.constant (value.Str (codes "x")) origin.Literal)) bound.no_exprs)))) ∷ (bound.typed types.long (bound.library
            lib.InStr (bound.next_expr (bound.typed types.str (bound.variable (record { 0 = 0 }) false)) (bound.next_expr (bound.typed
            types.str (bound.constant (value.Str []) origin.Literal)) bound.no_exprs)))) ∷ (bound.typed types.long (bound.library
            lib.InStr (bound.next_expr (bound.typed types.str (bound.constant (value.Str []) origin.Literal)) (bound.next_expr (bound.typed
            types.str (bound.constant (value.Str (codes "a")) origin.Literal)) bound.no_exprs)))) ∷ (bound.typed types.long (bound.library
            lib.InStr (bound.next_expr (bound.typed types.str (bound.constant (value.Str []) origin.Literal)) (bound.next_expr (bound.typed
            types.str (bound.constant (value.Str []) origin.Literal)) bound.no_exprs)))) ∷ []);
        rules = (record { bits = 0 });
        mentions
            = ((mention.Var (record { 0 = 0 })) ∷ (mention.Var (record { 0 = 0 })) ∷ (mention.Var (record { 0 = 0 })) ∷ (mention.Var
            (record { 0 = 0 })) ∷ []);
      });
    }) ∷
    (record {
      source = (record {
        place = (record { file = 1; line = 9 });
        text = (68 ∷ 101 ∷ 98 ∷ 117 ∷ 103 ∷ 46 ∷ 80 ∷ 114
            ∷ 105 ∷ 110 ∷ 116 ∷ 32 ∷ 65 ∷ 115 ∷ 99 ∷ 40 ∷ 115 ∷ 41 ∷ 59 ∷ 32 ∷ 67 ∷ 104 ∷ 114 ∷ 40 ∷ 55 ∷ 50 ∷ 41 ∷ 59 ∷ 32 ∷ 34 ∷
            91 ∷ 34 ∷ 32 ∷ 38 ∷ 32 ∷ 83 ∷ 112 ∷ 97 ∷ 99 ∷ 101 ∷ 40 ∷ 51 ∷ 41 ∷ 32 ∷ 38 ∷ 32 ∷ 34 ∷ 93 ∷ 34 ∷ []);
        form = (vb.debug_print
            ((vb.index (vb.word (codes "Asc") suffix.Absent) (vb.next_arg None false (vb.given (vb.word (codes "s") suffix.Absent))
            vb.no_args)) ∷ (vb.index (vb.word (codes "Chr") suffix.Absent) (vb.next_arg None false (vb.given (vb.lit (literal.Int
            (pos 72) false))) vb.no_args)) ∷ (vb.binary bin.Concat (vb.binary bin.Concat (vb.lit (literal.Str (codes "["))) (vb.index
            (vb.word (codes "Space") suffix.Absent) (vb.next_arg None false (vb.given (vb.lit (literal.Int (pos 3) false))) vb.no_args)))
            (vb.lit (literal.Str (codes "]")))) ∷ []) false);
      });
      bindings = (record {
        exprs = ((bound.typed types.integer (bound.library
            lib.Asc (bound.next_expr (bound.typed types.str (bound.variable (record { 0 = 0 }) false)) bound.no_exprs))) ∷ (bound.typed
            types.str (bound.library lib.Chr (bound.next_expr (bound.typed types.long (bound.convert types.long (bound.typed types.integer
            (bound.constant (value.Int (pos 72)) origin.Literal)))) bound.no_exprs))) ∷ (bound.typed types.str (bound.binary bin.Concat
            (bound.typed types.str (bound.binary bin.Concat (bound.typed types.str (bound.constant (value.Str (codes "[")) origin.Literal))
            (bound.typed types.str (bound.library lib.Space (bound.next_expr (bound.typed types.long (bound.convert types.long (bound.typed
            types.integer (bound.constant (value.Int (pos 3)) origin.Literal)))) bound.no_exprs))))) (bound.typed types.str (bound.constant
            (value.Str (codes "]")) origin.Literal)))) ∷ []);
        rules = (record { bits = 0 });
        mentions = ((mention.Var (record {
          0
              = 0;
        })) ∷ []);
      });
    }) ∷ [])

abbrev pub bodies : List (List bound.Line)
bodies = body_0 ∷ []

abbrev pub program : bound.Program
program = record { declarations = declarations; bodies = bodies }

abbrev pub quiet : List (List Bool)
quiet = (([]) ∷ [])

abbrev pub lows : List (VarId × ℤ × ℤ)
lows = ([])

abbrev pub clean : List Bool
clean = (true ∷ [])

abbrev pub written : net.Project
written = (record {
  library = false;
  main = (Some (codes "Main1"));
  note = None;
  modules = ((record {
    name = (codes "Main1");
    class = false;
    members = (
        (net.proc (record {
          head = (net.sub net_visible.Public (codes "Main") ([]));
          prologue = (
              (net.local (record { name = (codes "s"); ty = net_types.str; value = None })) ∷ []);
          lines = (
              (net.assign (net.path ((codes "s") ∷ [])) (net.lit (net.str (codes "  Hello, World  ")))) ∷
              (net.call (net.path ((codes "UpgradeSupport") ∷ (codes "PrintLine") ∷ [])) (net.next_exp (net.binary net_bin.Concat (net.binary
              net_bin.Concat (net.binary net_bin.Concat (net.binary net_bin.Concat (net.lit (net.str (codes "["))) (net.call_of (net.path
              ((codes "Microsoft") ∷ (codes "VisualBasic") ∷ (codes "Strings") ∷ (codes "Trim") ∷ [])) (net.next_exp (net.path ((codes
              "s") ∷ [])) net.no_exps))) (net.lit (net.str (codes "]")))) (net.binary net_bin.Concat (net.binary net_bin.Concat (net.lit
              (net.str (codes "["))) (net.call_of (net.path ((codes "Microsoft") ∷ (codes "VisualBasic") ∷ (codes "Strings") ∷ (codes
              "LTrim") ∷ [])) (net.next_exp (net.path ((codes "s") ∷ [])) net.no_exps))) (net.lit (net.str (codes "]"))))) (net.binary
              net_bin.Concat (net.binary net_bin.Concat (net.lit (net.str (codes "["))) (net.call_of (net.path ((codes "Microsoft")
              ∷ (codes "VisualBasic") ∷ (codes "Strings") ∷ (codes "RTrim") ∷ [])) (net.next_exp (net.path ((codes "s") ∷ [])) net.no_exps)))
              (net.lit (net.str (codes "]"))))) net.no_exps)) ∷
              (net.assign (net.path ((codes "s") ∷ [])) (net.call_of (net.path ((codes "Microsoft") ∷ (codes "VisualBasic") ∷ (codes
              "Strings") ∷ (codes "Trim") ∷ [])) (net.next_exp (net.path ((codes "s") ∷ [])) net.no_exps))) ∷
              (net.call (net.path ((codes "UpgradeSupport") ∷ (codes "PrintLine") ∷ [])) (net.next_exp (net.binary net_bin.Concat (net.binary
              net_bin.Concat (net.binary net_bin.Concat (net.binary net_bin.Concat (net.binary net_bin.Concat (net.call_of (net.path
              ((codes "Microsoft") ∷ (codes "VisualBasic") ∷ (codes "Strings") ∷ (codes "Left") ∷ [])) (net.next_exp (net.path ((codes
              "s") ∷ [])) (net.next_exp (net.lit (net.integer (pos 5) false)) net.no_exps))) (net.call_of (net.path ((codes "Microsoft")
              ∷ (codes "VisualBasic") ∷ (codes "Strings") ∷ (codes "Right") ∷ [])) (net.next_exp (net.path ((codes "s") ∷ [])) (net.next_exp
              (net.lit (net.integer (pos 5) false)) net.no_exps)))) (net.call_of (net.path ((codes "Microsoft") ∷ (codes "VisualBasic")
              ∷ (codes "Strings") ∷ (codes "Mid") ∷ [])) (net.next_exp (net.path ((codes "s") ∷ [])) (net.next_exp (net.lit (net.integer
              (pos 8) false)) net.no_exps)))) (net.call_of (net.path ((codes "Microsoft") ∷ (codes "VisualBasic") ∷ (codes "Strings")
              ∷ (codes "Mid") ∷ [])) (net.next_exp (net.path ((codes "s") ∷ [])) (net.next_exp (net.lit (net.integer (pos 1) false))
              (net.next_exp (net.lit (net.integer (pos 4) false)) net.no_exps))))) (net.call_of (net.path ((codes "Microsoft") ∷ (codes
              "VisualBasic") ∷ (codes "Strings") ∷ (codes "Mid") ∷ [])) (net.next_exp (net.path ((codes "s") ∷ [])) (net.next_exp (net.lit
              (net.integer (pos 100) false)) net.no_exps)))) (net.call_of (net.path ((codes "Microsoft") ∷ (codes "VisualBasic") ∷ (codes
              "Strings") ∷ (codes "Left") ∷ [])) (net.next_exp (net.path ((codes "s") ∷ [])) (net.next_exp (net.lit (net.integer (pos
              100) false)) net.no_exps)))) net.no_exps)) ∷
              (net.call (net.path ((codes "UpgradeSupport") ∷ (codes "PrintLine") ∷ [])) (net.next_exp (net.binary net_bin.Concat (net.binary
              net_bin.Concat (net.call_of (net.path ((codes "Microsoft") ∷ (codes "VisualBasic") ∷ (codes "Strings") ∷ (codes "UCase")
              ∷ [])) (net.next_exp (net.path ((codes "s") ∷ [])) net.no_exps)) (net.call_of (net.path ((codes "Microsoft") ∷ (codes
              "VisualBasic") ∷ (codes "Strings") ∷ (codes "LCase") ∷ [])) (net.next_exp (net.path ((codes "s") ∷ [])) net.no_exps)))
              (net.call_of (net.path ((codes "UpgradeSupport") ∷ (codes "PrintNum") ∷ [])) (net.next_exp (net.cast cast.CDec (net.call_of
              (net.path ((codes "Microsoft") ∷ (codes "VisualBasic") ∷ (codes "Strings") ∷ (codes "Len") ∷ [])) (net.next_exp (net.path
              ((codes "s") ∷ [])) net.no_exps))) net.no_exps))) net.no_exps)) ∷
              (net.call (net.path ((codes "UpgradeSupport") ∷ (codes "PrintLine") ∷ [])) (net.next_exp (net.binary net_bin.Concat (net.binary
              net_bin.Concat (net.binary net_bin.Concat (net.binary net_bin.Concat (net.binary net_bin.Concat (net.call_of (net.path
              ((codes "UpgradeSupport") ∷ (codes "PrintNum") ∷ [])) (net.next_exp (net.cast cast.CDec (net.call_of (net.path ((codes
              "Microsoft") ∷ (codes "VisualBasic") ∷ (codes "Strings") ∷ (codes "InStr") ∷ [])) (net.next_exp (net.path ((codes "s")
              ∷ [])) (net.next_exp (net.lit (net.str (codes "o"))) net.no_exps)))) net.no_exps)) (net.call_of (net.path ((codes "UpgradeSupport")
              ∷ (codes "PrintNum") ∷ [])) (net.next_exp (net.cast cast.CDec (net.call_of (net.path ((codes "Microsoft") ∷ (codes "VisualBasic")
              ∷ (codes "Strings") ∷ (codes "InStr") ∷ [])) (net.next_exp (net.path ((codes "s") ∷ [])) (net.next_exp (net.lit (net.str
              (codes "World"))) net.no_exps)))) net.no_exps))) (net.call_of (net.path ((codes "UpgradeSupport") ∷ (codes "PrintNum")
              ∷ [])) (net.next_exp (net.cast cast.CDec (net.call_of (net.path ((codes "Microsoft") ∷ (codes "VisualBasic") ∷ (codes
              "Strings") ∷ (codes "InStr") ∷ [])) (net.next_exp (net.path ((codes "s") ∷ [])) (net.next_exp (net.lit (net.str (codes
              "x"))) net.no_exps)))) net.no_exps))) (net.call_of (net.path ((codes "UpgradeSupport") ∷ (codes "PrintNum") ∷ [])) (net.next_exp
              (net.cast cast.CDec (net.call_of (net.path ((codes "Microsoft") ∷ (codes "VisualBasic") ∷ (codes "Strings") ∷ (codes "InStr")
              ∷ [])) (net.next_exp (net.path ((codes "s") ∷ [])) (net.next_exp (net.lit (net.str [])) net.no_exps)))) net.no_exps)))
              (net.call_of (net.path ((codes "UpgradeSupport") ∷ (codes "PrintNum") ∷ [])) (net.next_exp (net.cast cast.CDec (net.call_of
              (net.path ((codes "Microsoft") ∷ (codes "VisualBasic") ∷ (codes "Strings") ∷ (codes "InStr") ∷ [])) (net.next_exp (net.lit
              (net.str [])) (net.next_exp (net.lit (net.str (codes "a"))) net.no_exps)))) net.no_exps))) (net.call_of (net.path ((codes
              "UpgradeSupport") ∷ (codes "PrintNum") ∷ [])) (net.next_exp (net.cast cast.CDec (net.call_of (net.path ((codes "Microsoft")
              ∷ (codes "VisualBasic") ∷ (codes "Strings") ∷ (codes "InStr") ∷ [])) (net.next_exp (net.lit (net.str [])) (net.next_exp
              (net.lit (net.str [])) net.no_exps)))) net.no_exps))) net.no_exps)) ∷
              (net.call (net.path ((codes "UpgradeSupport") ∷ (codes "PrintLine") ∷ [])) (net.next_exp (net.binary net_bin.Concat (net.binary
              net_bin.Concat (net.call_of (net.path ((codes "UpgradeSupport") ∷ (codes "PrintNum") ∷ [])) (net.next_exp (net.cast cast.CDec
              (net.cast cast.CShort (net.call_of (net.path ((codes "Microsoft") ∷ (codes "VisualBasic") ∷ (codes "Strings") ∷ (codes
              "Asc") ∷ [])) (net.next_exp (net.path ((codes "s") ∷ [])) net.no_exps)))) net.no_exps)) (net.cast cast.CStr (net.call_of
              (net.path ((codes "Microsoft") ∷ (codes "VisualBasic") ∷ (codes "Strings") ∷ (codes "Chr") ∷ [])) (net.next_exp (net.lit
              (net.integer (pos 72) false)) net.no_exps)))) (net.binary net_bin.Concat (net.binary net_bin.Concat (net.lit (net.str
              (codes "["))) (net.call_of (net.path ((codes "Microsoft") ∷ (codes "VisualBasic") ∷ (codes "Strings") ∷ (codes "Space")
              ∷ [])) (net.next_exp (net.lit (net.integer (pos 3) false)) net.no_exps))) (net.lit (net.str (codes "]"))))) net.no_exps))
              ∷ []);
          close = close.EndSub;
        })) ∷ []);
  }) ∷ []);
  support = (record {
    name = (codes "UpgradeSupport");
    class = false;
    members
        = (
        (net.proc (record {
          head = (net.sub net_visible.Public (codes "PrintLine") ((record {
            passing = net_passing.Value;
            name
                = (codes "s");
            ty = net_types.str;
          }) ∷ []));
          prologue = ([]);
          lines = (
              (net.call (net.path ((codes "System") ∷ (codes "Console") ∷ (codes "WriteLine") ∷ [])) (net.next_exp (net.path ((codes
              "s") ∷ [])) net.no_exps)) ∷ []);
          close = close.EndSub;
        })) ∷
        (net.proc (record {
          head = (net.function net_visible.Public (codes "CurText") ((record {
            passing = net_passing.Value;
            name = (codes "d");
            ty = net_types.decimal;
          }) ∷ []) net_types.str);
          prologue = ([]);
          lines = (
              (net.assign (net.path ((codes "CurText") ∷ [])) (net.call_of (net.path ((codes "d") ∷ (codes "ToString") ∷ [])) (net.next_exp
              (net.lit (net.str (codes "0.####"))) (net.next_exp (net.path ((codes "System") ∷ (codes "Globalization") ∷ (codes "CultureInfo")
              ∷ (codes "InvariantCulture") ∷ [])) net.no_exps)))) ∷ []);
          close = close.EndFunction;
        })) ∷
        (net.proc (record {
          head = (net.function net_visible.Public (codes "PrintNum") ((record {
            passing = net_passing.Value;
            name = (codes "d");
            ty = net_types.decimal;
          }) ∷ []) net_types.str);
          prologue = ([]);
          lines = (
              (net.if_head (net.binary net_bin.Less (net.path ((codes "d") ∷ [])) (net.lit (net.decimal (pos 0))))) ∷
              (net.assign (net.path ((codes "PrintNum") ∷ [])) (net.binary net_bin.Concat (net.call_of (net.path ((codes "CurText")
              ∷ [])) (net.next_exp (net.path ((codes "d") ∷ [])) net.no_exps)) (net.lit (net.str (codes " "))))) ∷
              net.else_line ∷
              (net.assign (net.path ((codes "PrintNum") ∷ [])) (net.binary net_bin.Concat (net.binary net_bin.Concat (net.lit (net.str
              (codes " "))) (net.call_of (net.path ((codes "CurText") ∷ [])) (net.next_exp (net.path ((codes "d") ∷ [])) net.no_exps)))
              (net.lit (net.str (codes " "))))) ∷
              net.end_if ∷ []);
          close = close.EndFunction;
        })) ∷ []);
  });
})

abbrev pub runnable : Runnable
runnable = runnable_of program quiet lows

said : ran runnable 0 2000 ≡ (
  line (codes "[Hello, World][Hello, World  ][  Hello, World]")
      ++ line (codes "HelloWorldWorldHellHello, World")
      ++ line (codes "HELLO, WORLDhello, world 12 ")
      ++ line (codes " 5  8  0  1  0  0 ")
      ++ line (codes " 72 H[   ]"),
  ended,
)
unfolding digits
said = refl

said_written : ran_written written 0 2000 ≡ (
  line (codes "[Hello, World][Hello, World  ][  Hello, World]")
      ++ line (codes "HelloWorldWorldHellHello, World")
      ++ line (codes "HELLO, WORLDhello, world 12 ")
      ++ line (codes " 5  8  0  1  0  0 ")
      ++ line (codes " 72 H[   ]"),
  ended,
)
unfolding digits
said_written = refl
