-- The program values-more-operators, what it puts out and how it ends.
use Rattle.std.proofs.Common.{◌≡◌, refl, ◌++◌, List, ℤ, pos, Bool, true, false, [], ◌∷◌, codes, Some, None}
use Rattle.vb_tree.specs.declared.declared.VarId.{VarId}
use Rattle.bound_tree.specs.Tree as bound
use Rattle.net_tree.specs.Tree as net
use Rattle.net_tree.specs.Types as net_types
use Rattle.vb_tree.specs.BoundTree as types
use Rattle.vb_tree.specs.Tree as vb
use Rattle.vb_tree.specs.declared.expression.BinOp.TheVariants as bin
use Rattle.net_tree.specs.declared.expression.CastWord.TheVariants as cast
use Rattle.net_tree.specs.declared.declaration.NetClose.TheVariants as close
use Rattle.vb_tree.specs.declared.declared.ProcKind.TheVariants as kind
use Rattle.vb_tree.specs.declared.bound.LibCall.TheVariants as lib
use Rattle.vb_tree.specs.declared.token.Literal6.TheVariants as literal
use Rattle.bound_tree.specs.declared.body.Mention.TheVariants as mention
use Rattle.bound_tree.specs.declared.declared.Named.TheVariants as named
use Rattle.net_tree.specs.declared.expression.NetBin.TheVariants as net_bin
use Rattle.net_tree.specs.declared.declaration.NetPassing.TheVariants as net_passing
use Rattle.net_tree.specs.declared.expression.NetUn.TheVariants as net_un
use Rattle.net_tree.specs.declared.declaration.NetVisibility.TheVariants as net_visible
use Rattle.bound_tree.specs.declared.expression.Origin.TheVariants as origin
use Rattle.vb_tree.specs.declared.declared.Owner.TheVariants as owner
use Rattle.vb_tree.specs.declared.project.ProjectKind.TheVariants as project_kind
use Rattle.bound_tree.specs.declared.declared.Scope.TheVariants as scope
use Rattle.vb_tree.specs.declared.token.Suffix.TheVariants as suffix
use Rattle.vb_tree.specs.declared.expression.UnOp.TheVariants as un
use Rattle.vb_tree.specs.declared.value.Value6.TheVariants as value
use Rattle.vb_tree.specs.declared.form_parts.VarWord.TheVariants as var
use Rattle.vb_tree.specs.declared.form_parts.Visibility.TheVariants as visible
use Rattle.std.specs.Fmt.{digits}
use Rattle.example_runs.proofs.Said.{ended, line, ran, ran_written, runnable_of}
use Rattle.vb6_run.specs.Runnables.{Runnable}
use Rattle.vb6_meaning.specs.Bits.{from_bits}

abbrev pub project : vb.Project
project = (record {
  file = (record {
    kind = project_kind.Exe;
    startup = (Some (3, (codes "Sub Main")));
    entries = ((record
        { line = 2; class = false; name = (codes "Main1"); file = (codes "Main1.bas") }) ∷ []);
    dropped = ([]);
  });
  modules = ((record {
    file = 1;
    name = (codes "Main1");
    class = false;
    members = (
        (vb.proc (record {
          place = (record { file = 1; line = 1 });
          text = (codes "Sub Main()");
          form = (vb.sub_head (record {
            visibility = None;
            name = (codes "Main");
            suffix = suffix.Absent;
            params = ([]);
          }));
        }) (vb.next_node
        (vb.line (record {
          place = (record { file = 1; line = 2 });
          text = (codes "Dim b As Boolean, c As Boolean, y As Byte, n As Long, m As Currency, i As Integer");
          form = (vb.variables var.Dim ((record {
            name = (codes "b");
            suffix = suffix.Absent;
            bounds = None;
            auto = false;
            ty =
                (Some (vb.named (codes "Boolean")));
          }) ∷ (record {
            name = (codes "c");
            suffix = suffix.Absent;
            bounds = None;
            auto = false;
            ty = (Some (vb.named (codes "Boolean")));
          }) ∷ (record {
            name = (codes "y");
            suffix = suffix.Absent;
            bounds = None;
            auto
                = false;
            ty = (Some (vb.named (codes "Byte")));
          }) ∷ (record {
            name = (codes "n");
            suffix = suffix.Absent;
            bounds = None;
            auto = false;
            ty = (Some (vb.named (codes "Long")));
          }) ∷ (record {
            name = (codes "m");
            suffix = suffix.Absent;
            bounds
                = None;
            auto = false;
            ty = (Some (vb.named (codes "Currency")));
          }) ∷ (record {
            name = (codes "i");
            suffix = suffix.Absent;
            bounds = None;
            auto = false;
            ty = (Some (vb.named (codes "Integer")));
          }) ∷ []));
        })) (vb.next_node
        (vb.line (record {
          place = (record { file = 1; line = 3 });
          text = (codes "b = True");
          form = (vb.assign (vb.word (codes
              "b") suffix.Absent) (vb.word (codes "True") suffix.Absent));
        })) (vb.next_node
        (vb.line (record {
          place = (record { file = 1; line = 4 });
          text = (codes "Debug.Print b < c; b > c; b = c; b <= True");
          form = (vb.debug_print ((vb.binary bin.Less (vb.word (codes "b") suffix.Absent) (vb.word (codes "c") suffix.Absent)) ∷
              (vb.binary bin.Greater (vb.word (codes "b") suffix.Absent) (vb.word (codes "c") suffix.Absent)) ∷ (vb.binary bin.Equal
              (vb.word (codes "b") suffix.Absent) (vb.word (codes "c") suffix.Absent)) ∷ (vb.binary bin.LessEqual (vb.word (codes "b")
              suffix.Absent) (vb.word (codes "True") suffix.Absent)) ∷ []) false);
        })) (vb.next_node
        (vb.line (record {
          place = (record { file = 1; line = 5 });
          text = (codes "m = 2.5");
          form = (vb.assign (vb.word (codes
              "m") suffix.Absent) (vb.lit (literal.Plain (pos 25000))));
        })) (vb.next_node
        (vb.line (record {
          place = (record { file = 1; line = 6 });
          text = (codes "n = 3");
          form = (vb.assign (vb.word (codes
              "n") suffix.Absent) (vb.lit (literal.Int (pos 3) false)));
        })) (vb.next_node
        (vb.line (record {
          place = (record { file = 1; line = 7 });
          text = (codes "Debug.Print n * m; m * n; Abs(m - 5); Abs(-n); Abs(b)");
          form = (vb.debug_print ((vb.binary bin.Mul (vb.word (codes "n") suffix.Absent) (vb.word (codes "m") suffix.Absent)) ∷
              (vb.binary bin.Mul (vb.word (codes "m") suffix.Absent) (vb.word (codes "n") suffix.Absent)) ∷ (vb.index (vb.word (codes
              "Abs") suffix.Absent) (vb.next_arg None false (vb.given (vb.binary bin.Sub (vb.word (codes "m") suffix.Absent) (vb.lit
              (literal.Int (pos 5) false)))) vb.no_args)) ∷ (vb.index (vb.word (codes "Abs") suffix.Absent) (vb.next_arg None false
              (vb.given (vb.unary un.Neg (vb.word (codes "n") suffix.Absent))) vb.no_args)) ∷ (vb.index (vb.word (codes "Abs") suffix.Absent)
              (vb.next_arg None false (vb.given (vb.word (codes "b") suffix.Absent)) vb.no_args)) ∷ []) false);
        })) (vb.next_node
        (vb.line (record {
          place = (record { file = 1; line = 8 });
          text = (codes "y = 6");
          form = (vb.assign (vb.word (codes
              "y") suffix.Absent) (vb.lit (literal.Int (pos 6) false)));
        })) (vb.next_node
        (vb.line (record {
          place = (record { file = 1; line = 9 });
          text = (codes "Debug.Print y And 3; y Or 1; y Xor 2; n Eqv 5; n Imp 5; b Imp c; b Eqv c; Not m");
          form = (vb.debug_print ((vb.binary bin.And (vb.word (codes "y") suffix.Absent) (vb.lit (literal.Int (pos 3) false))) ∷
              (vb.binary bin.Or (vb.word (codes "y") suffix.Absent) (vb.lit (literal.Int (pos 1) false))) ∷ (vb.binary bin.Xor (vb.word
              (codes "y") suffix.Absent) (vb.lit (literal.Int (pos 2) false))) ∷ (vb.binary bin.Eqv (vb.word (codes "n") suffix.Absent)
              (vb.lit (literal.Int (pos 5) false))) ∷ (vb.binary bin.Imp (vb.word (codes "n") suffix.Absent) (vb.lit (literal.Int (pos
              5) false))) ∷ (vb.binary bin.Imp (vb.word (codes "b") suffix.Absent) (vb.word (codes "c") suffix.Absent)) ∷ (vb.binary
              bin.Eqv (vb.word (codes "b") suffix.Absent) (vb.word (codes "c") suffix.Absent)) ∷ (vb.unary un.Not (vb.word (codes "m")
              suffix.Absent)) ∷ []) false);
        })) (vb.next_node
        (vb.line (record {
          place = (record { file = 1; line = 10 });
          text = (68 ∷ 101 ∷ 98 ∷ 117 ∷ 103 ∷ 46 ∷ 80 ∷ 114 ∷ 105
              ∷ 110 ∷ 116 ∷ 32 ∷ 121 ∷ 32 ∷ 43 ∷ 32 ∷ 121 ∷ 59 ∷ 32 ∷ 121 ∷ 32 ∷ 42 ∷ 32 ∷ 121 ∷ 59 ∷ 32 ∷ 121 ∷ 32 ∷ 92 ∷ 32 ∷ 52 ∷
              59 ∷ 32 ∷ 121 ∷ 32 ∷ 77 ∷ 111 ∷ 100 ∷ 32 ∷ 52 ∷ 59 ∷ 32 ∷ 51 ∷ 32 ∷ 45 ∷ 32 ∷ 53 ∷ []);
          form = (vb.debug_print ((vb.binary
              bin.Add (vb.word (codes "y") suffix.Absent) (vb.word (codes "y") suffix.Absent)) ∷ (vb.binary bin.Mul (vb.word (codes
              "y") suffix.Absent) (vb.word (codes "y") suffix.Absent)) ∷ (vb.binary bin.IntDiv (vb.word (codes "y") suffix.Absent) (vb.lit
              (literal.Int (pos 4) false))) ∷ (vb.binary bin.Mod (vb.word (codes "y") suffix.Absent) (vb.lit (literal.Int (pos 4) false)))
              ∷ (vb.binary bin.Sub (vb.lit (literal.Int (pos 3) false)) (vb.lit (literal.Int (pos 5) false))) ∷ []) false);
        })) (vb.next_node
        (vb.line (record {
          place = (record { file = 1; line = 11 });
          text = (codes "i = 5");
          form = (vb.assign (vb.word (codes
              "i") suffix.Absent) (vb.lit (literal.Int (pos 5) false)));
        })) (vb.next_node
        (vb.line (record {
          place = (record { file = 1; line = 12 });
          text = (codes "Debug.Print -i; -n; -m; -b");
          form = (vb.debug_print
              ((vb.unary un.Neg (vb.word (codes "i") suffix.Absent)) ∷ (vb.unary un.Neg (vb.word (codes "n") suffix.Absent)) ∷ (vb.unary
              un.Neg (vb.word (codes "m") suffix.Absent)) ∷ (vb.unary un.Neg (vb.word (codes "b") suffix.Absent)) ∷ []) false);
        })) (vb.next_node
        (vb.line (record {
          place = (record { file = 1; line = 13 });
          text = (codes "Debug.Print CBool(n); CByte(n); CInt(m); CLng(m); CCur(n); CStr(y); CStr(i); CStr(b); CBool(m)");
          form = (vb.debug_print ((vb.index (vb.word (codes "CBool") suffix.Absent) (vb.next_arg None false (vb.given (vb.word (codes
              "n") suffix.Absent)) vb.no_args)) ∷ (vb.index (vb.word (codes "CByte") suffix.Absent) (vb.next_arg None false (vb.given
              (vb.word (codes "n") suffix.Absent)) vb.no_args)) ∷ (vb.index (vb.word (codes "CInt") suffix.Absent) (vb.next_arg None
              false (vb.given (vb.word (codes "m") suffix.Absent)) vb.no_args)) ∷ (vb.index (vb.word (codes "CLng") suffix.Absent) (vb.next_arg
              None false (vb.given (vb.word (codes "m") suffix.Absent)) vb.no_args)) ∷ (vb.index (vb.word (codes "CCur") suffix.Absent)
              (vb.next_arg None false (vb.given (vb.word (codes "n") suffix.Absent)) vb.no_args)) ∷ (vb.index (vb.word (codes "CStr")
              suffix.Absent) (vb.next_arg None false (vb.given (vb.word (codes "y") suffix.Absent)) vb.no_args)) ∷ (vb.index (vb.word
              (codes "CStr") suffix.Absent) (vb.next_arg None false (vb.given (vb.word (codes "i") suffix.Absent)) vb.no_args)) ∷ (vb.index
              (vb.word (codes "CStr") suffix.Absent) (vb.next_arg None false (vb.given (vb.word (codes "b") suffix.Absent)) vb.no_args))
              ∷ (vb.index (vb.word (codes "CBool") suffix.Absent) (vb.next_arg None false (vb.given (vb.word (codes "m") suffix.Absent))
              vb.no_args)) ∷ []) false);
        })) vb.no_nodes)))))))))))) (record {
          place = (record { file = 1; line = 14 });
          text = (codes
              "End Sub");
          form = vb.end_sub;
        })) ∷ []);
    comments = ([]);
  }) ∷ []);
})

abbrev pub declarations : bound.Declarations
declarations = (record {
  project = project;
  names = (
      (record { name = (codes "Main"); scope = (scope.Public 1); named = (named.Proc (record { 0 = 0 })) }) ∷
      (record { name = (codes "b"); scope = (scope.Local (record { 0 = 0 })); named = (named.Var (record { 0 = 0 })) }) ∷
      (record { name = (codes "c"); scope = (scope.Local (record { 0 = 0 })); named = (named.Var (record { 0 = 1 })) }) ∷
      (record { name = (codes "y"); scope = (scope.Local (record { 0 = 0 })); named = (named.Var (record { 0 = 2 })) }) ∷
      (record { name = (codes "n"); scope = (scope.Local (record { 0 = 0 })); named = (named.Var (record { 0 = 3 })) }) ∷
      (record { name = (codes "m"); scope = (scope.Local (record { 0 = 0 })); named = (named.Var (record { 0 = 4 })) }) ∷
      (record { name = (codes "i"); scope = (scope.Local (record { 0 = 0 })); named = (named.Var (record { 0 = 5 })) }) ∷ []);
  vars = (
      (record {
        name = (codes "b");
        place = (record { file = 1; line = 2 });
        statement = 1;
        owner = (owner.Local (record {
          0
              = 0;
        }));
        ty = types.boolean;
        named = types.boolean;
        qualified = false;
        lettered = None;
        bounds = ([]);
        auto = false;
        preset
            = None;
      }) ∷
      (record {
        name = (codes "c");
        place = (record { file = 1; line = 2 });
        statement = 1;
        owner = (owner.Local (record {
          0
              = 0;
        }));
        ty = types.boolean;
        named = types.boolean;
        qualified = false;
        lettered = None;
        bounds = ([]);
        auto = false;
        preset
            = None;
      }) ∷
      (record {
        name = (codes "y");
        place = (record { file = 1; line = 2 });
        statement = 1;
        owner = (owner.Local (record {
          0
              = 0;
        }));
        ty = types.byte;
        named = types.byte;
        qualified = false;
        lettered = None;
        bounds = ([]);
        auto = false;
        preset
            = None;
      }) ∷
      (record {
        name = (codes "n");
        place = (record { file = 1; line = 2 });
        statement = 1;
        owner = (owner.Local (record {
          0
              = 0;
        }));
        ty = types.long;
        named = types.long;
        qualified = false;
        lettered = None;
        bounds = ([]);
        auto = false;
        preset
            = None;
      }) ∷
      (record {
        name = (codes "m");
        place = (record { file = 1; line = 2 });
        statement = 1;
        owner = (owner.Local (record {
          0
              = 0;
        }));
        ty = types.currency;
        named = types.currency;
        qualified = false;
        lettered = None;
        bounds = ([]);
        auto = false;
        preset = None;
      }) ∷
      (record {
        name = (codes "i");
        place = (record { file = 1; line = 2 });
        statement = 1;
        owner = (owner.Local (record {
          0
              = 0;
        }));
        ty = types.integer;
        named = types.integer;
        qualified = false;
        lettered = None;
        bounds = ([]);
        auto = false;
        preset
            = None;
      }) ∷ []);
  consts = ([]);
  procs = (
      (record {
        name = (codes "Main");
        place = (record { file = 1; line = 1 });
        module_number = 1;
        kind = kind.Sub;
        visibility
            = visible.Public;
        params = ([]);
        result = types.nothing;
        answer = None;
        first = (record { 0 = 0 });
      }) ∷ []);
  types = ([]);
  enums = ([]);
  defaults = ([]);
})

abbrev pub body_0 : List bound.Line
body_0 = (
    (record {
      source = (record {
        place = (record { file = 1; line = 3 });
        text = (codes "b = True");
        form = (vb.assign (vb.word
            (codes "b") suffix.Absent) (vb.word (codes "True") suffix.Absent));
      });
      bindings = (record {
        exprs = ((bound.typed types.boolean
            (bound.variable (record { 0 = 0 }) false)) ∷ (bound.typed types.boolean (bound.constant (value.Boolean true) origin.Literal))
            ∷ []);
        rules = (record { bits = 0 });
        mentions = ((mention.Var (record { 0 = 0 })) ∷ []);
      });
    }) ∷
    (record {
      source = (record {
        place = (record { file = 1; line = 4 });
        text = (codes "Debug.Print b < c; b > c; b = c; b <= True");
        form = (vb.debug_print ((vb.binary bin.Less (vb.word (codes "b") suffix.Absent) (vb.word (codes "c") suffix.Absent)) ∷
            (vb.binary bin.Greater (vb.word (codes "b") suffix.Absent) (vb.word (codes "c") suffix.Absent)) ∷ (vb.binary bin.Equal
            (vb.word (codes "b") suffix.Absent) (vb.word (codes "c") suffix.Absent)) ∷ (vb.binary bin.LessEqual (vb.word (codes "b")
            suffix.Absent) (vb.word (codes "True") suffix.Absent)) ∷ []) false);
      });
      bindings = (record {
        exprs = ((bound.typed types.boolean
            (bound.binary bin.Less (bound.typed types.boolean (bound.variable (record { 0 = 0 }) false)) (bound.typed types.boolean
            (bound.variable (record { 0 = 1 }) false)))) ∷ (bound.typed types.boolean (bound.binary bin.Greater (bound.typed types.boolean
            (bound.variable (record { 0 = 0 }) false)) (bound.typed types.boolean (bound.variable (record { 0 = 1 }) false)))) ∷ (bound.typed
            types.boolean (bound.binary bin.Equal (bound.typed types.boolean (bound.variable (record { 0 = 0 }) false)) (bound.typed
            types.boolean (bound.variable (record { 0 = 1 }) false)))) ∷ (bound.typed types.boolean (bound.binary bin.LessEqual (bound.typed
            types.boolean (bound.variable (record { 0 = 0 }) false)) (bound.typed types.boolean (bound.constant (value.Boolean true)
            origin.Literal)))) ∷ []);
        rules = (record { bits = 0 });
        mentions = ((mention.Var (record { 0 = 0 })) ∷ (mention.Var (record
            { 0 = 1 })) ∷ (mention.Var (record { 0 = 0 })) ∷ (mention.Var (record { 0 = 1 })) ∷ (mention.Var (record { 0 = 0 })) ∷
            (mention.Var (record { 0 = 1 })) ∷ (mention.Var (record { 0 = 0 })) ∷ []);
      });
    }) ∷
    (record {
      source = (record {
        place = (record { file = 1; line = 5 });
        text = (codes "m = 2.5");
        form = (vb.assign (vb.word
            (codes "m") suffix.Absent) (vb.lit (literal.Plain (pos 25000))));
      });
      bindings = (record {
        exprs = ((bound.typed types.currency
            (bound.variable (record { 0 = 4 }) false)) ∷ (bound.typed types.currency (bound.constant (value.Cur (pos 25000)) origin.Literal))
            ∷ []);
        rules = (record { bits = 0 });
        mentions = ((mention.Var (record { 0 = 4 })) ∷ []);
      });
    }) ∷
    (record {
      source = (record {
        place = (record { file = 1; line = 6 });
        text = (codes "n = 3");
        form = (vb.assign (vb.word
            (codes "n") suffix.Absent) (vb.lit (literal.Int (pos 3) false)));
      });
      bindings = (record {
        exprs = ((bound.typed types.long
            (bound.variable (record { 0 = 3 }) false)) ∷ (bound.typed types.long (bound.convert types.long (bound.typed types.integer
            (bound.constant (value.Int (pos 3)) origin.Literal)))) ∷ []);
        rules = (record { bits = 0 });
        mentions = ((mention.Var
            (record { 0 = 3 })) ∷ []);
      });
    }) ∷
    (record {
      source = (record {
        place = (record { file = 1; line = 7 });
        text = (codes "Debug.Print n * m; m * n; Abs(m - 5); Abs(-n); Abs(b)");
        form = (vb.debug_print ((vb.binary bin.Mul (vb.word (codes "n") suffix.Absent) (vb.word (codes "m") suffix.Absent)) ∷
            (vb.binary bin.Mul (vb.word (codes "m") suffix.Absent) (vb.word (codes "n") suffix.Absent)) ∷ (vb.index (vb.word (codes
            "Abs") suffix.Absent) (vb.next_arg None false (vb.given (vb.binary bin.Sub (vb.word (codes "m") suffix.Absent) (vb.lit
            (literal.Int (pos 5) false)))) vb.no_args)) ∷ (vb.index (vb.word (codes "Abs") suffix.Absent) (vb.next_arg None false
            (vb.given (vb.unary un.Neg (vb.word (codes "n") suffix.Absent))) vb.no_args)) ∷ (vb.index (vb.word (codes "Abs") suffix.Absent)
            (vb.next_arg None false (vb.given (vb.word (codes "b") suffix.Absent)) vb.no_args)) ∷ []) false);
      });
      bindings = (record {
        exprs = ((bound.typed types.currency (bound.binary bin.Mul (bound.typed types.long (bound.variable (record { 0 = 3 })
            false)) (bound.typed types.currency (bound.variable (record { 0 = 4 }) false)))) ∷ (bound.typed types.currency (bound.binary
            bin.Mul (bound.typed types.currency (bound.variable (record { 0 = 4 }) false)) (bound.typed types.long (bound.variable
            (record { 0 = 3 }) false)))) ∷ (bound.typed types.currency (bound.library lib.Abs (bound.next_expr (bound.typed types.currency
            (bound.binary bin.Sub (bound.typed types.currency (bound.variable (record { 0 = 4 }) false)) (bound.typed types.currency
            (bound.convert types.currency (bound.typed types.integer (bound.constant (value.Int (pos 5)) origin.Literal)))))) bound.no_exprs)))
            ∷ (bound.typed types.long (bound.library lib.Abs (bound.next_expr (bound.typed types.long (bound.unary un.Neg (bound.typed
            types.long (bound.variable (record { 0 = 3 }) false)))) bound.no_exprs))) ∷ (bound.typed types.integer (bound.library
            lib.Abs (bound.next_expr (bound.typed types.integer (bound.convert types.integer (bound.typed types.boolean (bound.variable
            (record { 0 = 0 }) false)))) bound.no_exprs))) ∷ []);
        rules = (record { bits = 0 });
        mentions = ((mention.Var (record
            { 0 = 3 })) ∷ (mention.Var (record { 0 = 4 })) ∷ (mention.Var (record { 0 = 4 })) ∷ (mention.Var (record { 0 = 3 })) ∷
            (mention.Var (record { 0 = 4 })) ∷ (mention.Var (record { 0 = 3 })) ∷ (mention.Var (record { 0 = 0 })) ∷ []);
      });
    }) ∷
    (record {
      source = (record {
        place = (record { file = 1; line = 8 });
        text = (codes "y = 6");
        form = (vb.assign (vb.word
            (codes "y") suffix.Absent) (vb.lit (literal.Int (pos 6) false)));
      });
      bindings = (record {
        exprs = ((bound.typed types.byte
            (bound.variable (record { 0 = 2 }) false)) ∷ (bound.typed types.byte (bound.convert types.byte (bound.typed types.integer
            (bound.constant (value.Int (pos 6)) origin.Literal)))) ∷ []);
        rules = (record { bits = 0 });
        mentions = ((mention.Var
            (record { 0 = 2 })) ∷ []);
      });
    }) ∷
    (record {
      source = (record {
        place = (record { file = 1; line = 9 });
        text = (codes "Debug.Print y And 3; y Or 1; y Xor 2; n Eqv 5; n Imp 5; b Imp c; b Eqv c; Not m");
        form = (vb.debug_print ((vb.binary bin.And (vb.word (codes "y") suffix.Absent) (vb.lit (literal.Int (pos 3) false))) ∷
            (vb.binary bin.Or (vb.word (codes "y") suffix.Absent) (vb.lit (literal.Int (pos 1) false))) ∷ (vb.binary bin.Xor (vb.word
            (codes "y") suffix.Absent) (vb.lit (literal.Int (pos 2) false))) ∷ (vb.binary bin.Eqv (vb.word (codes "n") suffix.Absent)
            (vb.lit (literal.Int (pos 5) false))) ∷ (vb.binary bin.Imp (vb.word (codes "n") suffix.Absent) (vb.lit (literal.Int (pos
            5) false))) ∷ (vb.binary bin.Imp (vb.word (codes "b") suffix.Absent) (vb.word (codes "c") suffix.Absent)) ∷ (vb.binary
            bin.Eqv (vb.word (codes "b") suffix.Absent) (vb.word (codes "c") suffix.Absent)) ∷ (vb.unary un.Not (vb.word (codes "m")
            suffix.Absent)) ∷ []) false);
      });
      bindings = (record {
        exprs = ((bound.typed types.integer (bound.binary bin.And (bound.typed
            types.integer (bound.convert types.integer (bound.typed types.byte (bound.variable (record { 0 = 2 }) false)))) (bound.typed
            types.integer (bound.constant (value.Int (pos 3)) origin.Literal)))) ∷ (bound.typed types.integer (bound.binary bin.Or
            (bound.typed types.integer (bound.convert types.integer (bound.typed types.byte (bound.variable (record { 0 = 2 }) false))))
            (bound.typed types.integer (bound.constant (value.Int (pos 1)) origin.Literal)))) ∷ (bound.typed types.integer (bound.binary
            bin.Xor (bound.typed types.integer (bound.convert types.integer (bound.typed types.byte (bound.variable (record {
              0 =
                  2;
            }) false)))) (bound.typed types.integer (bound.constant (value.Int (pos 2)) origin.Literal)))) ∷ (bound.typed types.long
            (bound.binary bin.Eqv (bound.typed types.long (bound.variable (record { 0 = 3 }) false)) (bound.typed types.long (bound.convert
            types.long (bound.typed types.integer (bound.constant (value.Int (pos 5)) origin.Literal)))))) ∷ (bound.typed types.long
            (bound.binary bin.Imp (bound.typed types.long (bound.variable (record { 0 = 3 }) false)) (bound.typed types.long (bound.convert
            types.long (bound.typed types.integer (bound.constant (value.Int (pos 5)) origin.Literal)))))) ∷ (bound.typed types.boolean
            (bound.binary bin.Imp (bound.typed types.boolean (bound.variable (record { 0 = 0 }) false)) (bound.typed types.boolean
            (bound.variable (record { 0 = 1 }) false)))) ∷ (bound.typed types.boolean (bound.binary bin.Eqv (bound.typed types.boolean
            (bound.variable (record { 0 = 0 }) false)) (bound.typed types.boolean (bound.variable (record { 0 = 1 }) false)))) ∷ (bound.typed
            types.long (bound.unary un.Not (bound.typed types.long (bound.convert types.long (bound.typed types.currency (bound.variable
            (record { 0 = 4 }) false)))))) ∷ []);
        rules = (record { bits = 0 });
        mentions = ((mention.Var (record { 0 = 2 })) ∷ (mention.Var
            (record { 0 = 2 })) ∷ (mention.Var (record { 0 = 2 })) ∷ (mention.Var (record { 0 = 3 })) ∷ (mention.Var (record {
              0 =
                  3;
            })) ∷ (mention.Var (record { 0 = 0 })) ∷ (mention.Var (record { 0 = 1 })) ∷ (mention.Var (record { 0 = 0 })) ∷ (mention.Var
            (record { 0 = 1 })) ∷ (mention.Var (record { 0 = 4 })) ∷ []);
      });
    }) ∷
    (record {
      source = (record {
        place = (record { file = 1; line = 10 });
        text = (68 ∷ 101 ∷ 98 ∷ 117 ∷ 103 ∷ 46 ∷ 80 ∷ 114
            ∷ 105 ∷ 110 ∷ 116 ∷ 32 ∷ 121 ∷ 32 ∷ 43 ∷ 32 ∷ 121 ∷ 59 ∷ 32 ∷ 121 ∷ 32 ∷ 42 ∷ 32 ∷ 121 ∷ 59 ∷ 32 ∷ 121 ∷ 32 ∷ 92 ∷ 32
            ∷ 52 ∷ 59 ∷ 32 ∷ 121 ∷ 32 ∷ 77 ∷ 111 ∷ 100 ∷ 32 ∷ 52 ∷ 59 ∷ 32 ∷ 51 ∷ 32 ∷ 45 ∷ 32 ∷ 53 ∷ []);
        form = (vb.debug_print
            ((vb.binary bin.Add (vb.word (codes "y") suffix.Absent) (vb.word (codes "y") suffix.Absent)) ∷ (vb.binary bin.Mul (vb.word
            (codes "y") suffix.Absent) (vb.word (codes "y") suffix.Absent)) ∷ (vb.binary bin.IntDiv (vb.word (codes "y") suffix.Absent)
            (vb.lit (literal.Int (pos 4) false))) ∷ (vb.binary bin.Mod (vb.word (codes "y") suffix.Absent) (vb.lit (literal.Int (pos
            4) false))) ∷ (vb.binary bin.Sub (vb.lit (literal.Int (pos 3) false)) (vb.lit (literal.Int (pos 5) false))) ∷ []) false);
      });
      bindings = (record {
        exprs = ((bound.typed types.byte (bound.binary bin.Add (bound.typed types.byte (bound.variable
            (record { 0 = 2 }) false)) (bound.typed types.byte (bound.variable (record { 0 = 2 }) false)))) ∷ (bound.typed types.byte
            (bound.binary bin.Mul (bound.typed types.byte (bound.variable (record { 0 = 2 }) false)) (bound.typed types.byte (bound.variable
            (record { 0 = 2 }) false)))) ∷ (bound.typed types.integer (bound.binary bin.IntDiv (bound.typed types.integer (bound.convert
            types.integer (bound.typed types.byte (bound.variable (record { 0 = 2 }) false)))) (bound.typed types.integer (bound.constant
            (value.Int (pos 4)) origin.Literal)))) ∷ (bound.typed types.integer (bound.binary bin.Mod (bound.typed types.integer (bound.convert
            types.integer (bound.typed types.byte (bound.variable (record { 0 = 2 }) false)))) (bound.typed types.integer (bound.constant
            (value.Int (pos 4)) origin.Literal)))) ∷ (bound.typed types.integer (bound.binary bin.Sub (bound.typed types.integer (bound.constant
            (value.Int (pos 3)) origin.Literal)) (bound.typed types.integer (bound.constant (value.Int (pos 5)) origin.Literal))))
            ∷ []);
        rules = (record { bits = 0 });
        mentions = ((mention.Var (record { 0 = 2 })) ∷ (mention.Var (record { 0 = 2 }))
            ∷ (mention.Var (record { 0 = 2 })) ∷ (mention.Var (record { 0 = 2 })) ∷ (mention.Var (record { 0 = 2 })) ∷ (mention.Var
            (record { 0 = 2 })) ∷ []);
      });
    }) ∷
    (record {
      source = (record {
        place = (record { file = 1; line = 11 });
        text = (codes "i = 5");
        form = (vb.assign (vb.word
            (codes "i") suffix.Absent) (vb.lit (literal.Int (pos 5) false)));
      });
      bindings = (record {
        exprs = ((bound.typed types.integer
            (bound.variable (record { 0 = 5 }) false)) ∷ (bound.typed types.integer (bound.constant (value.Int (pos 5)) origin.Literal))
            ∷ []);
        rules = (record { bits = 0 });
        mentions = ((mention.Var (record { 0 = 5 })) ∷ []);
      });
    }) ∷
    (record {
      source = (record {
        place = (record { file = 1; line = 12 });
        text = (codes "Debug.Print -i; -n; -m; -b");
        form
            = (vb.debug_print ((vb.unary un.Neg (vb.word (codes "i") suffix.Absent)) ∷ (vb.unary un.Neg (vb.word (codes "n") suffix.Absent))
            ∷ (vb.unary un.Neg (vb.word (codes "m") suffix.Absent)) ∷ (vb.unary un.Neg (vb.word (codes "b") suffix.Absent)) ∷ [])
            false);
      });
      bindings = (record {
        exprs = ((bound.typed types.integer (bound.unary un.Neg (bound.typed types.integer (bound.variable
            (record { 0 = 5 }) false)))) ∷ (bound.typed types.long (bound.unary un.Neg (bound.typed types.long (bound.variable (record
            { 0 = 3 }) false)))) ∷ (bound.typed types.currency (bound.unary un.Neg (bound.typed types.currency (bound.variable (record
            { 0 = 4 }) false)))) ∷ (bound.typed types.integer (bound.unary un.Neg (bound.typed types.integer (bound.convert types.integer
            (bound.typed types.boolean (bound.variable (record { 0 = 0 }) false)))))) ∷ []);
        rules = (record { bits = 0 });
        mentions
            = ((mention.Var (record { 0 = 5 })) ∷ (mention.Var (record { 0 = 3 })) ∷ (mention.Var (record { 0 = 4 })) ∷ (mention.Var
            (record { 0 = 0 })) ∷ []);
      });
    }) ∷
    (record {
      source = (record {
        place = (record { file = 1; line = 13 });
        text = (codes "Debug.Print CBool(n); CByte(n); CInt(m); CLng(m); CCur(n); CStr(y); CStr(i); CStr(b); CBool(m)");
        form = (vb.debug_print ((vb.index (vb.word (codes "CBool") suffix.Absent) (vb.next_arg None false (vb.given (vb.word (codes
            "n") suffix.Absent)) vb.no_args)) ∷ (vb.index (vb.word (codes "CByte") suffix.Absent) (vb.next_arg None false (vb.given
            (vb.word (codes "n") suffix.Absent)) vb.no_args)) ∷ (vb.index (vb.word (codes "CInt") suffix.Absent) (vb.next_arg None
            false (vb.given (vb.word (codes "m") suffix.Absent)) vb.no_args)) ∷ (vb.index (vb.word (codes "CLng") suffix.Absent) (vb.next_arg
            None false (vb.given (vb.word (codes "m") suffix.Absent)) vb.no_args)) ∷ (vb.index (vb.word (codes "CCur") suffix.Absent)
            (vb.next_arg None false (vb.given (vb.word (codes "n") suffix.Absent)) vb.no_args)) ∷ (vb.index (vb.word (codes "CStr")
            suffix.Absent) (vb.next_arg None false (vb.given (vb.word (codes "y") suffix.Absent)) vb.no_args)) ∷ (vb.index (vb.word
            (codes "CStr") suffix.Absent) (vb.next_arg None false (vb.given (vb.word (codes "i") suffix.Absent)) vb.no_args)) ∷ (vb.index
            (vb.word (codes "CStr") suffix.Absent) (vb.next_arg None false (vb.given (vb.word (codes "b") suffix.Absent)) vb.no_args))
            ∷ (vb.index (vb.word (codes "CBool") suffix.Absent) (vb.next_arg None false (vb.given (vb.word (codes "m") suffix.Absent))
            vb.no_args)) ∷ []) false);
      });
      bindings = (record {
        exprs = ((bound.typed types.boolean (bound.library lib.CBool (bound.next_expr
            (bound.typed types.long (bound.variable (record { 0 = 3 }) false)) bound.no_exprs))) ∷ (bound.typed types.byte (bound.library
            lib.CByte (bound.next_expr (bound.typed types.long (bound.variable (record { 0 = 3 }) false)) bound.no_exprs))) ∷ (bound.typed
            types.integer (bound.library lib.CInt (bound.next_expr (bound.typed types.currency (bound.variable (record { 0 = 4 })
            false)) bound.no_exprs))) ∷ (bound.typed types.long (bound.library lib.CLng (bound.next_expr (bound.typed types.currency
            (bound.variable (record { 0 = 4 }) false)) bound.no_exprs))) ∷ (bound.typed types.currency (bound.library lib.CCur (bound.next_expr
            (bound.typed types.long (bound.variable (record { 0 = 3 }) false)) bound.no_exprs))) ∷ (bound.typed types.str (bound.library
            lib.CStr (bound.next_expr (bound.typed types.byte (bound.variable (record { 0 = 2 }) false)) bound.no_exprs))) ∷ (bound.typed
            types.str (bound.library lib.CStr (bound.next_expr (bound.typed types.integer (bound.variable (record { 0 = 5 }) false))
            bound.no_exprs))) ∷ (bound.typed types.str (bound.library lib.CStr (bound.next_expr (bound.typed types.boolean (bound.variable
            (record { 0 = 0 }) false)) bound.no_exprs))) ∷ (bound.typed types.boolean (bound.library lib.CBool (bound.next_expr (bound.typed
            types.currency (bound.variable (record { 0 = 4 }) false)) bound.no_exprs))) ∷ []);
        rules = (record { bits = 0 });
        mentions
            = ((mention.Var (record { 0 = 3 })) ∷ (mention.Var (record { 0 = 3 })) ∷ (mention.Var (record { 0 = 4 })) ∷ (mention.Var
            (record { 0 = 4 })) ∷ (mention.Var (record { 0 = 3 })) ∷ (mention.Var (record { 0 = 2 })) ∷ (mention.Var (record {
              0 =
                  5;
            })) ∷ (mention.Var (record { 0 = 0 })) ∷ (mention.Var (record { 0 = 4 })) ∷ []);
      });
    }) ∷ [])

abbrev pub bodies : List (List bound.Line)
bodies = body_0 ∷ []

abbrev pub program : bound.Program
program = record { declarations = declarations; bodies = bodies }

abbrev pub quiet : List (List Bool)
quiet = (([]) ∷ [])

abbrev pub lows : List (VarId × ℤ × ℤ)
lows = ([])

abbrev pub clean : List Bool
clean = (true ∷ [])

abbrev pub written : net.Project
written = (record {
  library = false;
  main = (Some (codes "Main1"));
  note = None;
  modules = ((record {
    name = (codes "Main1");
    class = false;
    members = (
        (net.proc (record {
          head = (net.sub net_visible.Public (codes "Main") ([]));
          prologue = (
              (net.local (record { name = (codes "b"); ty = net_types.boolean; value = None })) ∷
              (net.local (record { name = (codes "c"); ty = net_types.boolean; value = None })) ∷
              (net.local (record { name = (codes "y"); ty = net_types.byte; value = None })) ∷
              (net.local (record { name = (codes "n"); ty = net_types.integer; value = None })) ∷
              (net.local (record { name = (codes "m"); ty = net_types.decimal; value = None })) ∷
              (net.local (record { name = (codes "i"); ty = net_types.short; value = None })) ∷ []);
          lines = (
              (net.assign (net.path ((codes "b") ∷ [])) (net.lit (net.boolean true))) ∷
              (net.call (net.path ((codes "UpgradeSupport") ∷ (codes "PrintLine") ∷ [])) (net.next_exp (net.binary net_bin.Concat (net.binary
              net_bin.Concat (net.binary net_bin.Concat (net.cast cast.CStr (net.binary net_bin.Less (net.path ((codes "b") ∷ [])) (net.path
              ((codes "c") ∷ [])))) (net.cast cast.CStr (net.binary net_bin.Greater (net.path ((codes "b") ∷ [])) (net.path ((codes
              "c") ∷ []))))) (net.cast cast.CStr (net.binary net_bin.Equal (net.path ((codes "b") ∷ [])) (net.path ((codes "c") ∷ [])))))
              (net.cast cast.CStr (net.binary net_bin.LessEqual (net.path ((codes "b") ∷ [])) (net.lit (net.boolean true))))) net.no_exps))
              ∷
              (net.assign (net.path ((codes "m") ∷ [])) (net.lit (net.decimal (pos 25000)))) ∷
              (net.assign (net.path ((codes "n") ∷ [])) (net.lit (net.integer (pos 3) false))) ∷
              (net.call (net.path ((codes "UpgradeSupport") ∷ (codes "PrintLine") ∷ [])) (net.next_exp (net.binary net_bin.Concat (net.binary
              net_bin.Concat (net.binary net_bin.Concat (net.binary net_bin.Concat (net.call_of (net.path ((codes "UpgradeSupport")
              ∷ (codes "PrintNum") ∷ [])) (net.next_exp (net.call_of (net.path ((codes "UpgradeSupport") ∷ (codes "Cur") ∷ [])) (net.next_exp
              (net.binary net_bin.Mul (net.cast cast.CDec (net.path ((codes "n") ∷ []))) (net.path ((codes "m") ∷ []))) net.no_exps))
              net.no_exps)) (net.call_of (net.path ((codes "UpgradeSupport") ∷ (codes "PrintNum") ∷ [])) (net.next_exp (net.call_of
              (net.path ((codes "UpgradeSupport") ∷ (codes "Cur") ∷ [])) (net.next_exp (net.binary net_bin.Mul (net.path ((codes "m")
              ∷ [])) (net.cast cast.CDec (net.path ((codes "n") ∷ [])))) net.no_exps)) net.no_exps))) (net.call_of (net.path ((codes
              "UpgradeSupport") ∷ (codes "PrintNum") ∷ [])) (net.next_exp (net.call_of (net.path ((codes "UpgradeSupport") ∷ (codes
              "Cur") ∷ [])) (net.next_exp (net.call_of (net.path ((codes "System") ∷ (codes "Math") ∷ (codes "Abs") ∷ [])) (net.next_exp
              (net.call_of (net.path ((codes "UpgradeSupport") ∷ (codes "Cur") ∷ [])) (net.next_exp (net.binary net_bin.Sub (net.path
              ((codes "m") ∷ [])) (net.lit (net.decimal (pos 50000)))) net.no_exps)) net.no_exps)) net.no_exps)) net.no_exps))) (net.call_of
              (net.path ((codes "UpgradeSupport") ∷ (codes "PrintNum") ∷ [])) (net.next_exp (net.cast cast.CDec (net.call_of (net.path
              ((codes "System") ∷ (codes "Math") ∷ (codes "Abs") ∷ [])) (net.next_exp (net.unary net_un.Neg (net.path ((codes "n") ∷
              []))) net.no_exps))) net.no_exps))) (net.call_of (net.path ((codes "UpgradeSupport") ∷ (codes "PrintNum") ∷ [])) (net.next_exp
              (net.cast cast.CDec (net.call_of (net.path ((codes "System") ∷ (codes "Math") ∷ (codes "Abs") ∷ [])) (net.next_exp (net.cast
              cast.CShort (net.path ((codes "b") ∷ []))) net.no_exps))) net.no_exps))) net.no_exps)) ∷
              (net.assign (net.path ((codes "y") ∷ [])) (net.cast cast.CByte (net.lit (net.short (pos 6) false)))) ∷
              (net.call (net.path ((codes "UpgradeSupport") ∷ (codes "PrintLine") ∷ [])) (net.next_exp (net.binary net_bin.Concat (net.binary
              net_bin.Concat (net.binary net_bin.Concat (net.binary net_bin.Concat (net.binary net_bin.Concat (net.binary net_bin.Concat
              (net.binary net_bin.Concat (net.call_of (net.path ((codes "UpgradeSupport") ∷ (codes "PrintNum") ∷ [])) (net.next_exp
              (net.cast cast.CDec (net.binary net_bin.And (net.cast cast.CShort (net.path ((codes "y") ∷ []))) (net.lit (net.short (pos
              3) false)))) net.no_exps)) (net.call_of (net.path ((codes "UpgradeSupport") ∷ (codes "PrintNum") ∷ [])) (net.next_exp
              (net.cast cast.CDec (net.binary net_bin.Or (net.cast cast.CShort (net.path ((codes "y") ∷ []))) (net.lit (net.short (pos
              1) false)))) net.no_exps))) (net.call_of (net.path ((codes "UpgradeSupport") ∷ (codes "PrintNum") ∷ [])) (net.next_exp
              (net.cast cast.CDec (net.binary net_bin.Xor (net.cast cast.CShort (net.path ((codes "y") ∷ []))) (net.lit (net.short (pos
              2) false)))) net.no_exps))) (net.call_of (net.path ((codes "UpgradeSupport") ∷ (codes "PrintNum") ∷ [])) (net.next_exp
              (net.cast cast.CDec (net.unary net_un.Not (net.binary net_bin.Xor (net.path ((codes "n") ∷ [])) (net.lit (net.integer
              (pos 5) false))))) net.no_exps))) (net.call_of (net.path ((codes "UpgradeSupport") ∷ (codes "PrintNum") ∷ [])) (net.next_exp
              (net.cast cast.CDec (net.binary net_bin.Or (net.unary net_un.Not (net.path ((codes "n") ∷ []))) (net.lit (net.integer
              (pos 5) false)))) net.no_exps))) (net.cast cast.CStr (net.binary net_bin.Or (net.unary net_un.Not (net.path ((codes "b")
              ∷ []))) (net.path ((codes "c") ∷ []))))) (net.cast cast.CStr (net.unary net_un.Not (net.binary net_bin.Xor (net.path ((codes
              "b") ∷ [])) (net.path ((codes "c") ∷ [])))))) (net.call_of (net.path ((codes "UpgradeSupport") ∷ (codes "PrintNum") ∷
              [])) (net.next_exp (net.cast cast.CDec (net.unary net_un.Not (net.cast cast.CInt (net.path ((codes "m") ∷ []))))) net.no_exps)))
              net.no_exps)) ∷
              (net.call (net.path ((codes "UpgradeSupport") ∷ (codes "PrintLine") ∷ [])) (net.next_exp (net.binary net_bin.Concat (net.binary
              net_bin.Concat (net.binary net_bin.Concat (net.binary net_bin.Concat (net.call_of (net.path ((codes "UpgradeSupport")
              ∷ (codes "PrintNum") ∷ [])) (net.next_exp (net.cast cast.CDec (net.binary net_bin.Add (net.path ((codes "y") ∷ [])) (net.path
              ((codes "y") ∷ [])))) net.no_exps)) (net.call_of (net.path ((codes "UpgradeSupport") ∷ (codes "PrintNum") ∷ [])) (net.next_exp
              (net.cast cast.CDec (net.binary net_bin.Mul (net.path ((codes "y") ∷ [])) (net.path ((codes "y") ∷ [])))) net.no_exps)))
              (net.call_of (net.path ((codes "UpgradeSupport") ∷ (codes "PrintNum") ∷ [])) (net.next_exp (net.cast cast.CDec (net.binary
              net_bin.IntDiv (net.cast cast.CShort (net.path ((codes "y") ∷ []))) (net.lit (net.short (pos 4) false)))) net.no_exps)))
              (net.call_of (net.path ((codes "UpgradeSupport") ∷ (codes "PrintNum") ∷ [])) (net.next_exp (net.cast cast.CDec (net.binary
              net_bin.Mod (net.cast cast.CShort (net.path ((codes "y") ∷ []))) (net.lit (net.short (pos 4) false)))) net.no_exps)))
              (net.call_of (net.path ((codes "UpgradeSupport") ∷ (codes "PrintNum") ∷ [])) (net.next_exp (net.cast cast.CDec (net.binary
              net_bin.Sub (net.lit (net.short (pos 3) false)) (net.lit (net.short (pos 5) false)))) net.no_exps))) net.no_exps)) ∷
              (net.assign (net.path ((codes "i") ∷ [])) (net.lit (net.short (pos 5) false))) ∷
              (net.call (net.path ((codes "UpgradeSupport") ∷ (codes "PrintLine") ∷ [])) (net.next_exp (net.binary net_bin.Concat (net.binary
              net_bin.Concat (net.binary net_bin.Concat (net.call_of (net.path ((codes "UpgradeSupport") ∷ (codes "PrintNum") ∷ []))
              (net.next_exp (net.cast cast.CDec (net.unary net_un.Neg (net.path ((codes "i") ∷ [])))) net.no_exps)) (net.call_of (net.path
              ((codes "UpgradeSupport") ∷ (codes "PrintNum") ∷ [])) (net.next_exp (net.cast cast.CDec (net.unary net_un.Neg (net.path
              ((codes "n") ∷ [])))) net.no_exps))) (net.call_of (net.path ((codes "UpgradeSupport") ∷ (codes "PrintNum") ∷ [])) (net.next_exp
              (net.call_of (net.path ((codes "UpgradeSupport") ∷ (codes "Cur") ∷ [])) (net.next_exp (net.unary net_un.Neg (net.path
              ((codes "m") ∷ []))) net.no_exps)) net.no_exps))) (net.call_of (net.path ((codes "UpgradeSupport") ∷ (codes "PrintNum")
              ∷ [])) (net.next_exp (net.cast cast.CDec (net.unary net_un.Neg (net.cast cast.CShort (net.path ((codes "b") ∷ [])))))
              net.no_exps))) net.no_exps)) ∷
              (net.call (net.path ((codes "UpgradeSupport") ∷ (codes "PrintLine") ∷ [])) (net.next_exp (net.binary net_bin.Concat (net.binary
              net_bin.Concat (net.binary net_bin.Concat (net.binary net_bin.Concat (net.binary net_bin.Concat (net.binary net_bin.Concat
              (net.binary net_bin.Concat (net.binary net_bin.Concat (net.cast cast.CStr (net.cast cast.CBool (net.path ((codes "n")
              ∷ [])))) (net.call_of (net.path ((codes "UpgradeSupport") ∷ (codes "PrintNum") ∷ [])) (net.next_exp (net.cast cast.CDec
              (net.cast cast.CByte (net.path ((codes "n") ∷ [])))) net.no_exps))) (net.call_of (net.path ((codes "UpgradeSupport") ∷
              (codes "PrintNum") ∷ [])) (net.next_exp (net.cast cast.CDec (net.cast cast.CShort (net.path ((codes "m") ∷ [])))) net.no_exps)))
              (net.call_of (net.path ((codes "UpgradeSupport") ∷ (codes "PrintNum") ∷ [])) (net.next_exp (net.cast cast.CDec (net.cast
              cast.CInt (net.path ((codes "m") ∷ [])))) net.no_exps))) (net.call_of (net.path ((codes "UpgradeSupport") ∷ (codes "PrintNum")
              ∷ [])) (net.next_exp (net.cast cast.CDec (net.path ((codes "n") ∷ []))) net.no_exps))) (net.cast cast.CStr (net.path ((codes
              "y") ∷ [])))) (net.cast cast.CStr (net.path ((codes "i") ∷ [])))) (net.cast cast.CStr (net.path ((codes "b") ∷ []))))
              (net.cast cast.CStr (net.cast cast.CBool (net.path ((codes "m") ∷ []))))) net.no_exps)) ∷ []);
          close = close.EndSub;
        }))
        ∷ []);
  }) ∷ []);
  support = (record {
    name = (codes "UpgradeSupport");
    class = false;
    members = (
        (net.proc (record {
          head = (net.sub net_visible.Public (codes "PrintLine") ((record {
            passing = net_passing.Value;
            name
                = (codes "s");
            ty = net_types.str;
          }) ∷ []));
          prologue = ([]);
          lines = (
              (net.call (net.path ((codes "System") ∷ (codes "Console") ∷ (codes "WriteLine") ∷ [])) (net.next_exp (net.path ((codes
              "s") ∷ [])) net.no_exps)) ∷ []);
          close = close.EndSub;
        })) ∷
        (net.proc (record {
          head = (net.function net_visible.Public (codes "CurText") ((record {
            passing = net_passing.Value;
            name = (codes "d");
            ty = net_types.decimal;
          }) ∷ []) net_types.str);
          prologue = ([]);
          lines = (
              (net.assign (net.path ((codes "CurText") ∷ [])) (net.call_of (net.path ((codes "d") ∷ (codes "ToString") ∷ [])) (net.next_exp
              (net.lit (net.str (codes "0.####"))) (net.next_exp (net.path ((codes "System") ∷ (codes "Globalization") ∷ (codes "CultureInfo")
              ∷ (codes "InvariantCulture") ∷ [])) net.no_exps)))) ∷ []);
          close = close.EndFunction;
        })) ∷
        (net.proc (record {
          head = (net.function net_visible.Public (codes "PrintNum") ((record {
            passing = net_passing.Value;
            name = (codes "d");
            ty = net_types.decimal;
          }) ∷ []) net_types.str);
          prologue = ([]);
          lines = (
              (net.if_head (net.binary net_bin.Less (net.path ((codes "d") ∷ [])) (net.lit (net.decimal (pos 0))))) ∷
              (net.assign (net.path ((codes "PrintNum") ∷ [])) (net.binary net_bin.Concat (net.call_of (net.path ((codes "CurText")
              ∷ [])) (net.next_exp (net.path ((codes "d") ∷ [])) net.no_exps)) (net.lit (net.str (codes " "))))) ∷
              net.else_line ∷
              (net.assign (net.path ((codes "PrintNum") ∷ [])) (net.binary net_bin.Concat (net.binary net_bin.Concat (net.lit (net.str
              (codes " "))) (net.call_of (net.path ((codes "CurText") ∷ [])) (net.next_exp (net.path ((codes "d") ∷ [])) net.no_exps)))
              (net.lit (net.str (codes " "))))) ∷
              net.end_if ∷ []);
          close = close.EndFunction;
        })) ∷
        (net.proc (record {
          head = (net.function net_visible.Public (codes "Cur") ((record {
            passing = net_passing.Value;
            name
                = (codes "d");
            ty = net_types.decimal;
          }) ∷ []) net_types.decimal);
          prologue = ([]);
          lines = (
              (net.if_head (net.binary net_bin.Or (net.binary net_bin.Less (net.path ((codes "d") ∷ [])) (net.unary net_un.Neg (net.lit
              (net.decimal (pos 9223372036854775808))))) (net.binary net_bin.Greater (net.path ((codes "d") ∷ [])) (net.lit (net.decimal
              (pos 9223372036854775807)))))) ∷
              (net.call (net.path ((codes "Raise") ∷ [])) (net.next_exp (net.lit (net.integer (pos 6) false)) net.no_exps)) ∷
              net.end_if ∷
              (net.assign (net.path ((codes "Cur") ∷ [])) (net.path ((codes "d") ∷ []))) ∷ []);
          close = close.EndFunction;
        })) ∷
        (net.proc (record {
          head = (net.sub net_visible.Public (codes "Raise") ((record {
            passing = net_passing.Value;
            name =
                (codes "n");
            ty = net_types.integer;
          }) ∷ []));
          prologue = ([]);
          lines = (
              (net.call (net.dot (net.call_of (net.path ((codes "Microsoft") ∷ (codes "VisualBasic") ∷ (codes "Information") ∷ (codes
              "Err") ∷ [])) net.no_exps) (codes "Raise")) (net.next_exp (net.path ((codes "n") ∷ [])) net.no_exps)) ∷ []);
          close = close.EndSub;
        })) ∷ []);
  });
})

abbrev pub runnable : Runnable
runnable = runnable_of program quiet lows

said : ran runnable 0 2000 ≡ (
  line (codes "TrueFalseFalseTrue")
      ++ line (codes " 7.5  7.5  2.5  3  1 ")
      ++ line (codes " 2  7  4 -7 -3 FalseFalse-3 ")
      ++ line (codes " 12  36  1  2 -2 ")
      ++ line (codes "-5 -3 -2.5  1 ")
      ++ line (codes "True 3  2  2  3 65TrueTrue"),
  ended,
)
unfolding digits from_bits
said = refl

said_written : ran_written written 0 2000 ≡ (
  line (codes "TrueFalseFalseTrue")
      ++ line (codes " 7.5  7.5  2.5  3  1 ")
      ++ line (codes " 2  7  4 -7 -3 FalseFalse-3 ")
      ++ line (codes " 12  36  1  2 -2 ")
      ++ line (codes "-5 -3 -2.5  1 ")
      ++ line (codes "True 3  2  2  3 65TrueTrue"),
  ended,
)
unfolding digits from_bits
said_written = refl
