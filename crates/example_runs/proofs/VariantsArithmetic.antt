-- The program variants-arithmetic, what it puts out and how it ends.
use Rattle.std.proofs.Common.{◌≡◌, refl, ◌++◌, List, ℤ, pos, Bool, true, false, [], ◌∷◌, codes, Some, None}
use Rattle.vb_tree.specs.declared.declared.VarId.{VarId}
use Rattle.bound_tree.specs.Tree as bound
use Rattle.net_tree.specs.Tree as net
use Rattle.net_tree.specs.Types as net_types
use Rattle.vb_tree.specs.BoundTree as types
use Rattle.vb_tree.specs.Tree as vb
use Rattle.vb_tree.specs.declared.expression.BinOp.TheVariants as bin
use Rattle.net_tree.specs.declared.expression.CastWord.TheVariants as cast
use Rattle.net_tree.specs.declared.declaration.NetClose.TheVariants as close
use Rattle.vb_tree.specs.declared.declared.ProcKind.TheVariants as kind
use Rattle.vb_tree.specs.declared.token.Literal6.TheVariants as literal
use Rattle.bound_tree.specs.declared.body.Mention.TheVariants as mention
use Rattle.bound_tree.specs.declared.declared.Named.TheVariants as named
use Rattle.net_tree.specs.declared.expression.NetBin.TheVariants as net_bin
use Rattle.net_tree.specs.declared.declaration.NetPassing.TheVariants as net_passing
use Rattle.net_tree.specs.declared.expression.NetUn.TheVariants as net_un
use Rattle.net_tree.specs.declared.declaration.NetVisibility.TheVariants as net_visible
use Rattle.bound_tree.specs.declared.expression.Origin.TheVariants as origin
use Rattle.vb_tree.specs.declared.declared.Owner.TheVariants as owner
use Rattle.vb_tree.specs.declared.project.ProjectKind.TheVariants as project_kind
use Rattle.bound_tree.specs.declared.declared.Scope.TheVariants as scope
use Rattle.vb_tree.specs.declared.token.Suffix.TheVariants as suffix
use Rattle.vb_tree.specs.declared.expression.UnOp.TheVariants as un
use Rattle.vb_tree.specs.declared.value.Value6.TheVariants as value
use Rattle.vb_tree.specs.declared.form_parts.VarWord.TheVariants as var
use Rattle.vb_tree.specs.declared.form_parts.Visibility.TheVariants as visible
use Rattle.std.specs.Fmt.{digits}
use Rattle.example_runs.proofs.Said.{ended, line, ran, ran_written, runnable_of}
use Rattle.vb6_run.specs.Runnables.{Runnable}
use Rattle.vb6_meaning.specs.Bits.{from_bits}

abbrev pub project : vb.Project
project = (record {
  file = (record {
    kind = project_kind.Exe;
    startup = (Some (3, (codes "Sub Main")));
    entries = ((record
        { line = 2; class = false; name = (codes "Main1"); file = (codes "Main1.bas") }) ∷ []);
    dropped = ([]);
  });
  modules = ((record {
    file = 1;
    name = (codes "Main1");
    class = false;
    members = (
        (vb.proc (record {
          place = (record { file = 1; line = 1 });
          text = (codes "Sub Main()");
          form = (vb.sub_head (record {
            visibility = None;
            name = (codes "Main");
            suffix = suffix.Absent;
            params = ([]);
          }));
        }) (vb.next_node
        (vb.line (record {
          place = (record { file = 1; line = 2 });
          text = (codes "Dim v As Variant, y As Byte");
          form = (vb.variables
              var.Dim ((record {
                name = (codes "v");
                suffix = suffix.Absent;
                bounds = None;
                auto = false;
                ty = (Some (vb.named (codes
                    "Variant")));
              }) ∷ (record {
                name = (codes "y");
                suffix = suffix.Absent;
                bounds = None;
                auto = false;
                ty = (Some (vb.named
                    (codes "Byte")));
              }) ∷ []));
        })) (vb.next_node
        (vb.line (record {
          place = (record { file = 1; line = 3 });
          text = (codes "v = 32767");
          form = (vb.assign (vb.word (codes
              "v") suffix.Absent) (vb.lit (literal.Int (pos 32767) false)));
        })) (vb.next_node
        (vb.line (record {
          place = (record { file = 1; line = 4 });
          text = (codes "v = v + 1");
          form = (vb.assign (vb.word (codes
              "v") suffix.Absent) (vb.binary bin.Add (vb.word (codes "v") suffix.Absent) (vb.lit (literal.Int (pos 1) false))));
        }))
        (vb.next_node
        (vb.line (record {
          place = (record { file = 1; line = 5 });
          text = (codes "Debug.Print v");
          form = (vb.debug_print ((vb.word
              (codes "v") suffix.Absent) ∷ []) false);
        })) (vb.next_node
        (vb.line (record {
          place = (record { file = 1; line = 6 });
          text = (codes "y = 250");
          form = (vb.assign (vb.word (codes
              "y") suffix.Absent) (vb.lit (literal.Int (pos 250) false)));
        })) (vb.next_node
        (vb.line (record {
          place = (record { file = 1; line = 7 });
          text = (codes "v = y");
          form = (vb.assign (vb.word (codes
              "v") suffix.Absent) (vb.word (codes "y") suffix.Absent));
        })) (vb.next_node
        (vb.line (record {
          place = (record { file = 1; line = 8 });
          text = (codes "v = v + y");
          form = (vb.assign (vb.word (codes
              "v") suffix.Absent) (vb.binary bin.Add (vb.word (codes "v") suffix.Absent) (vb.word (codes "y") suffix.Absent)));
        })) (vb.next_node
        (vb.line (record {
          place = (record { file = 1; line = 9 });
          text = (codes "Debug.Print v");
          form = (vb.debug_print ((vb.word
              (codes "v") suffix.Absent) ∷ []) false);
        })) (vb.next_node
        (vb.line (record {
          place = (record { file = 1; line = 10 });
          text = (codes "v = 5");
          form = (vb.assign (vb.word (codes
              "v") suffix.Absent) (vb.lit (literal.Int (pos 5) false)));
        })) (vb.next_node
        (vb.line (record {
          place = (record { file = 1; line = 11 });
          text = (68 ∷ 101 ∷ 98 ∷ 117 ∷ 103 ∷ 46 ∷ 80 ∷ 114 ∷ 105
              ∷ 110 ∷ 116 ∷ 32 ∷ 118 ∷ 32 ∷ 43 ∷ 32 ∷ 49 ∷ 46 ∷ 53 ∷ 64 ∷ 59 ∷ 32 ∷ 118 ∷ 32 ∷ 42 ∷ 32 ∷ 50 ∷ 59 ∷ 32 ∷ 118 ∷ 32 ∷ 45
              ∷ 32 ∷ 49 ∷ 48 ∷ 59 ∷ 32 ∷ 118 ∷ 32 ∷ 92 ∷ 32 ∷ 50 ∷ 59 ∷ 32 ∷ 118 ∷ 32 ∷ 77 ∷ 111 ∷ 100 ∷ 32 ∷ 51 ∷ 59 ∷ 32 ∷ 45 ∷ 118
              ∷ []);
          form = (vb.debug_print ((vb.binary bin.Add (vb.word (codes "v") suffix.Absent) (vb.lit (literal.Cur (pos 15000))))
              ∷ (vb.binary bin.Mul (vb.word (codes "v") suffix.Absent) (vb.lit (literal.Int (pos 2) false))) ∷ (vb.binary bin.Sub (vb.word
              (codes "v") suffix.Absent) (vb.lit (literal.Int (pos 10) false))) ∷ (vb.binary bin.IntDiv (vb.word (codes "v") suffix.Absent)
              (vb.lit (literal.Int (pos 2) false))) ∷ (vb.binary bin.Mod (vb.word (codes "v") suffix.Absent) (vb.lit (literal.Int (pos
              3) false))) ∷ (vb.unary un.Neg (vb.word (codes "v") suffix.Absent)) ∷ []) false);
        })) (vb.next_node
        (vb.line (record {
          place = (record { file = 1; line = 12 });
          text = (codes "v = True");
          form = (vb.assign (vb.word (codes
              "v") suffix.Absent) (vb.word (codes "True") suffix.Absent));
        })) (vb.next_node
        (vb.line (record {
          place = (record { file = 1; line = 13 });
          text = (codes "Debug.Print v + 1; v; Not v");
          form = (vb.debug_print
              ((vb.binary bin.Add (vb.word (codes "v") suffix.Absent) (vb.lit (literal.Int (pos 1) false))) ∷ (vb.word (codes "v") suffix.Absent)
              ∷ (vb.unary un.Not (vb.word (codes "v") suffix.Absent)) ∷ []) false);
        })) (vb.next_node
        (vb.line (record {
          place = (record { file = 1; line = 14 });
          text = (68 ∷ 101 ∷ 98 ∷ 117 ∷ 103 ∷ 46 ∷ 80 ∷ 114 ∷ 105
              ∷ 110 ∷ 116 ∷ 32 ∷ 69 ∷ 109 ∷ 112 ∷ 116 ∷ 121 ∷ 32 ∷ 38 ∷ 32 ∷ 34 ∷ 120 ∷ 34 ∷ 59 ∷ 32 ∷ 69 ∷ 109 ∷ 112 ∷ 116 ∷ 121 ∷
              32 ∷ 43 ∷ 32 ∷ 53 ∷ []);
          form = (vb.debug_print ((vb.binary bin.Concat (vb.word (codes "Empty") suffix.Absent) (vb.lit
              (literal.Str (codes "x")))) ∷ (vb.binary bin.Add (vb.word (codes "Empty") suffix.Absent) (vb.lit (literal.Int (pos 5)
              false))) ∷ []) false);
        })) vb.no_nodes))))))))))))) (record {
          place = (record { file = 1; line = 15 });
          text = (codes "End Sub");
          form = vb.end_sub;
        })) ∷ []);
    comments = ([]);
  }) ∷ []);
})

abbrev pub declarations : bound.Declarations
declarations = (record {
  project = project;
  names = (
      (record { name = (codes "Main"); scope = (scope.Public 1); named = (named.Proc (record { 0 = 0 })) }) ∷
      (record { name = (codes "v"); scope = (scope.Local (record { 0 = 0 })); named = (named.Var (record { 0 = 0 })) }) ∷
      (record { name = (codes "y"); scope = (scope.Local (record { 0 = 0 })); named = (named.Var (record { 0 = 1 })) }) ∷ []);
  vars = (
      (record {
        name = (codes "v");
        place = (record { file = 1; line = 2 });
        statement = 1;
        owner = (owner.Local (record {
          0
              = 0;
        }));
        ty = types.variant;
        named = types.variant;
        qualified = false;
        lettered = None;
        bounds = ([]);
        auto = false;
        preset
            = None;
      }) ∷
      (record {
        name = (codes "y");
        place = (record { file = 1; line = 2 });
        statement = 1;
        owner = (owner.Local (record {
          0
              = 0;
        }));
        ty = types.byte;
        named = types.byte;
        qualified = false;
        lettered = None;
        bounds = ([]);
        auto = false;
        preset
            = None;
      }) ∷ []);
  consts = ([]);
  procs = (
      (record {
        name = (codes "Main");
        place = (record { file = 1; line = 1 });
        module_number = 1;
        kind = kind.Sub;
        visibility
            = visible.Public;
        params = ([]);
        result = types.nothing;
        answer = None;
        first = (record { 0 = 0 });
      }) ∷ []);
  types = ([]);
  enums = ([]);
  defaults = ([]);
})

abbrev pub body_0 : List bound.Line
body_0 = (
    (record {
      source = (record {
        place = (record { file = 1; line = 3 });
        text = (codes "v = 32767");
        form = (vb.assign (vb.word
            (codes "v") suffix.Absent) (vb.lit (literal.Int (pos 32767) false)));
      });
      bindings = (record {
        exprs = ((bound.typed types.variant
            (bound.variable (record { 0 = 0 }) false)) ∷ (bound.typed types.variant (bound.convert types.variant (bound.typed types.integer
            (bound.constant (value.Int (pos 32767)) origin.Literal)))) ∷ []);
        rules = (record { bits = 0 });
        mentions = ((mention.Var
            (record { 0 = 0 })) ∷ []);
      });
    }) ∷
    (record {
      source = (record {
        place = (record { file = 1; line = 4 });
        text = (codes "v = v + 1");
        form = (vb.assign (vb.word
            (codes "v") suffix.Absent) (vb.binary bin.Add (vb.word (codes "v") suffix.Absent) (vb.lit (literal.Int (pos 1) false))));
      });
      bindings = (record {
        exprs = ((bound.typed types.variant (bound.variable (record { 0 = 0 }) false)) ∷ (bound.typed
            types.variant (bound.binary bin.Add (bound.typed types.variant (bound.variable (record { 0 = 0 }) false)) (bound.typed
            types.variant (bound.convert types.variant (bound.typed types.integer (bound.constant (value.Int (pos 1)) origin.Literal))))))
            ∷ []);
        rules = (record { bits = 0 });
        mentions = ((mention.Var (record { 0 = 0 })) ∷ (mention.Var (record { 0 = 0 }))
            ∷ []);
      });
    }) ∷
    (record {
      source = (record {
        place = (record { file = 1; line = 5 });
        text = (codes "Debug.Print v");
        form = (vb.debug_print
            ((vb.word (codes "v") suffix.Absent) ∷ []) false);
      });
      bindings = (record {
        exprs = ((bound.typed types.variant (bound.variable
            (record { 0 = 0 }) false)) ∷ []);
        rules = (record { bits = 0 });
        mentions = ((mention.Var (record { 0 = 0 })) ∷ []);
      });
    }) ∷
    (record {
      source = (record {
        place = (record { file = 1; line = 6 });
        text = (codes "y = 250");
        form = (vb.assign (vb.word
            (codes "y") suffix.Absent) (vb.lit (literal.Int (pos 250) false)));
      });
      bindings = (record {
        exprs = ((bound.typed types.byte
            (bound.variable (record { 0 = 1 }) false)) ∷ (bound.typed types.byte (bound.convert types.byte (bound.typed types.integer
            (bound.constant (value.Int (pos 250)) origin.Literal)))) ∷ []);
        rules = (record { bits = 0 });
        mentions = ((mention.Var
            (record { 0 = 1 })) ∷ []);
      });
    }) ∷
    (record {
      source = (record {
        place = (record { file = 1; line = 7 });
        text = (codes "v = y");
        form = (vb.assign (vb.word
            (codes "v") suffix.Absent) (vb.word (codes "y") suffix.Absent));
      });
      bindings = (record {
        exprs = ((bound.typed types.variant
            (bound.variable (record { 0 = 0 }) false)) ∷ (bound.typed types.variant (bound.convert types.variant (bound.typed types.byte
            (bound.variable (record { 0 = 1 }) false)))) ∷ []);
        rules = (record { bits = 0 });
        mentions = ((mention.Var (record {
          0 = 0;
        })) ∷ (mention.Var (record { 0 = 1 })) ∷ []);
      });
    }) ∷
    (record {
      source = (record {
        place = (record { file = 1; line = 8 });
        text = (codes "v = v + y");
        form = (vb.assign (vb.word
            (codes "v") suffix.Absent) (vb.binary bin.Add (vb.word (codes "v") suffix.Absent) (vb.word (codes "y") suffix.Absent)));
      });
      bindings = (record {
        exprs = ((bound.typed types.variant (bound.variable (record { 0 = 0 }) false)) ∷ (bound.typed
            types.variant (bound.binary bin.Add (bound.typed types.variant (bound.variable (record { 0 = 0 }) false)) (bound.typed
            types.variant (bound.convert types.variant (bound.typed types.byte (bound.variable (record { 0 = 1 }) false)))))) ∷ []);
        rules = (record { bits = 0 });
        mentions = ((mention.Var (record { 0 = 0 })) ∷ (mention.Var (record { 0 = 0 })) ∷ (mention.Var
            (record { 0 = 1 })) ∷ []);
      });
    }) ∷
    (record {
      source = (record {
        place = (record { file = 1; line = 9 });
        text = (codes "Debug.Print v");
        form = (vb.debug_print
            ((vb.word (codes "v") suffix.Absent) ∷ []) false);
      });
      bindings = (record {
        exprs = ((bound.typed types.variant (bound.variable
            (record { 0 = 0 }) false)) ∷ []);
        rules = (record { bits = 0 });
        mentions = ((mention.Var (record { 0 = 0 })) ∷ []);
      });
    }) ∷
    (record {
      source = (record {
        place = (record { file = 1; line = 10 });
        text = (codes "v = 5");
        form = (vb.assign (vb.word
            (codes "v") suffix.Absent) (vb.lit (literal.Int (pos 5) false)));
      });
      bindings = (record {
        exprs = ((bound.typed types.variant
            (bound.variable (record { 0 = 0 }) false)) ∷ (bound.typed types.variant (bound.convert types.variant (bound.typed types.integer
            (bound.constant (value.Int (pos 5)) origin.Literal)))) ∷ []);
        rules = (record { bits = 0 });
        mentions = ((mention.Var
            (record { 0 = 0 })) ∷ []);
      });
    }) ∷
    (record {
      source = (record {
        place = (record { file = 1; line = 11 });
        text = (68 ∷ 101 ∷ 98 ∷ 117 ∷ 103 ∷ 46 ∷ 80 ∷ 114
            ∷ 105 ∷ 110 ∷ 116 ∷ 32 ∷ 118 ∷ 32 ∷ 43 ∷ 32 ∷ 49 ∷ 46 ∷ 53 ∷ 64 ∷ 59 ∷ 32 ∷ 118 ∷ 32 ∷ 42 ∷ 32 ∷ 50 ∷ 59 ∷ 32 ∷ 118 ∷
            32 ∷ 45 ∷ 32 ∷ 49 ∷ 48 ∷ 59 ∷ 32 ∷ 118 ∷ 32 ∷ 92 ∷ 32 ∷ 50 ∷ 59 ∷ 32 ∷ 118 ∷ 32 ∷ 77 ∷ 111 ∷ 100 ∷ 32 ∷ 51 ∷ 59 ∷ 32 ∷
            45 ∷ 118 ∷ []);
        form = (vb.debug_print ((vb.binary bin.Add (vb.word (codes "v") suffix.Absent) (vb.lit (literal.Cur (pos
            15000)))) ∷ (vb.binary bin.Mul (vb.word (codes "v") suffix.Absent) (vb.lit (literal.Int (pos 2) false))) ∷ (vb.binary
            bin.Sub (vb.word (codes "v") suffix.Absent) (vb.lit (literal.Int (pos 10) false))) ∷ (vb.binary bin.IntDiv (vb.word (codes
            "v") suffix.Absent) (vb.lit (literal.Int (pos 2) false))) ∷ (vb.binary bin.Mod (vb.word (codes "v") suffix.Absent) (vb.lit
            (literal.Int (pos 3) false))) ∷ (vb.unary un.Neg (vb.word (codes "v") suffix.Absent)) ∷ []) false);
      });
      bindings = (record {
        exprs = ((bound.typed types.variant (bound.binary bin.Add (bound.typed types.variant (bound.variable (record {
          0 = 0;
        }) false)) (bound.typed types.variant (bound.convert types.variant (bound.typed types.currency (bound.constant (value.Cur
            (pos 15000)) origin.Literal)))))) ∷ (bound.typed types.variant (bound.binary bin.Mul (bound.typed types.variant (bound.variable
            (record { 0 = 0 }) false)) (bound.typed types.variant (bound.convert types.variant (bound.typed types.integer (bound.constant
            (value.Int (pos 2)) origin.Literal)))))) ∷ (bound.typed types.variant (bound.binary bin.Sub (bound.typed types.variant
            (bound.variable (record { 0 = 0 }) false)) (bound.typed types.variant (bound.convert types.variant (bound.typed types.integer
            (bound.constant (value.Int (pos 10)) origin.Literal)))))) ∷ (bound.typed types.variant (bound.binary bin.IntDiv (bound.typed
            types.variant (bound.variable (record { 0 = 0 }) false)) (bound.typed types.variant (bound.convert types.variant (bound.typed
            types.integer (bound.constant (value.Int (pos 2)) origin.Literal)))))) ∷ (bound.typed types.variant (bound.binary bin.Mod
            (bound.typed types.variant (bound.variable (record { 0 = 0 }) false)) (bound.typed types.variant (bound.convert types.variant
            (bound.typed types.integer (bound.constant (value.Int (pos 3)) origin.Literal)))))) ∷ (bound.typed types.variant (bound.unary
            un.Neg (bound.typed types.variant (bound.variable (record { 0 = 0 }) false)))) ∷ []);
        rules = (record { bits = 0 });
        mentions
            = ((mention.Var (record { 0 = 0 })) ∷ (mention.Var (record { 0 = 0 })) ∷ (mention.Var (record { 0 = 0 })) ∷ (mention.Var
            (record { 0 = 0 })) ∷ (mention.Var (record { 0 = 0 })) ∷ (mention.Var (record { 0 = 0 })) ∷ []);
      });
    }) ∷
    (record {
      source = (record {
        place = (record { file = 1; line = 12 });
        text = (codes "v = True");
        form = (vb.assign (vb.word
            (codes "v") suffix.Absent) (vb.word (codes "True") suffix.Absent));
      });
      bindings = (record {
        exprs = ((bound.typed types.variant
            (bound.variable (record { 0 = 0 }) false)) ∷ (bound.typed types.variant (bound.convert types.variant (bound.typed types.boolean
            (bound.constant (value.Boolean true) origin.Literal)))) ∷ []);
        rules = (record { bits = 0 });
        mentions = ((mention.Var
            (record { 0 = 0 })) ∷ []);
      });
    }) ∷
    (record {
      source = (record {
        place = (record { file = 1; line = 13 });
        text = (codes "Debug.Print v + 1; v; Not v");
        form
            = (vb.debug_print ((vb.binary bin.Add (vb.word (codes "v") suffix.Absent) (vb.lit (literal.Int (pos 1) false))) ∷ (vb.word
            (codes "v") suffix.Absent) ∷ (vb.unary un.Not (vb.word (codes "v") suffix.Absent)) ∷ []) false);
      });
      bindings = (record {
        exprs = ((bound.typed types.variant (bound.binary bin.Add (bound.typed types.variant (bound.variable (record {
          0 = 0;
        }) false)) (bound.typed types.variant (bound.convert types.variant (bound.typed types.integer (bound.constant (value.Int
            (pos 1)) origin.Literal)))))) ∷ (bound.typed types.variant (bound.variable (record { 0 = 0 }) false)) ∷ (bound.typed types.variant
            (bound.unary un.Not (bound.typed types.variant (bound.variable (record { 0 = 0 }) false)))) ∷ []);
        rules = (record {
          bits
              = 0;
        });
        mentions = ((mention.Var (record { 0 = 0 })) ∷ (mention.Var (record { 0 = 0 })) ∷ (mention.Var (record {
          0 = 0;
        })) ∷ []);
      });
    }) ∷
    (record {
      source = (record {
        place = (record { file = 1; line = 14 });
        text = (68 ∷ 101 ∷ 98 ∷ 117 ∷ 103 ∷ 46 ∷ 80 ∷ 114
            ∷ 105 ∷ 110 ∷ 116 ∷ 32 ∷ 69 ∷ 109 ∷ 112 ∷ 116 ∷ 121 ∷ 32 ∷ 38 ∷ 32 ∷ 34 ∷ 120 ∷ 34 ∷ 59 ∷ 32 ∷ 69 ∷ 109 ∷ 112 ∷ 116 ∷
            121 ∷ 32 ∷ 43 ∷ 32 ∷ 53 ∷ []);
        form = (vb.debug_print ((vb.binary bin.Concat (vb.word (codes "Empty") suffix.Absent) (vb.lit
            (literal.Str (codes "x")))) ∷ (vb.binary bin.Add (vb.word (codes "Empty") suffix.Absent) (vb.lit (literal.Int (pos 5)
            false))) ∷ []) false);
      });
      bindings = (record {
        exprs = ((bound.typed types.str (bound.binary bin.Concat (bound.typed types.str
            (bound.convert types.str (bound.typed types.variant (bound.constant value.Empty origin.Literal)))) (bound.typed types.str
            (bound.constant (value.Str (codes "x")) origin.Literal)))) ∷ (bound.typed types.variant (bound.binary bin.Add (bound.typed
            types.variant (bound.constant value.Empty origin.Literal)) (bound.typed types.variant (bound.convert types.variant (bound.typed
            types.integer (bound.constant (value.Int (pos 5)) origin.Literal)))))) ∷ []);
        rules = (record { bits = 0 });
        mentions
            = ([]);
      });
    }) ∷ [])

abbrev pub bodies : List (List bound.Line)
bodies = body_0 ∷ []

abbrev pub program : bound.Program
program = record { declarations = declarations; bodies = bodies }

abbrev pub quiet : List (List Bool)
quiet = (([]) ∷ [])

abbrev pub lows : List (VarId × ℤ × ℤ)
lows = ([])

abbrev pub clean : List Bool
clean = (true ∷ [])

abbrev pub written : net.Project
written = (record {
  library = false;
  main = (Some (codes "Main1"));
  note = None;
  modules = ((record {
    name = (codes "Main1");
    class = false;
    members = (
        (net.proc (record {
          head = (net.sub net_visible.Public (codes "Main") ([]));
          prologue = (
              (net.local (record { name = (codes "v"); ty = net_types.object; value = None })) ∷
              (net.local (record { name = (codes "y"); ty = net_types.byte; value = None })) ∷ []);
          lines = (
              (net.assign (net.path ((codes "v") ∷ [])) (net.cast cast.CObj (net.lit (net.short (pos 32767) false)))) ∷
              (net.assign (net.path ((codes "v") ∷ [])) (net.call_of (net.path ((codes "UpgradeSupport") ∷ (codes "VarAdd") ∷ [])) (net.next_exp
              (net.path ((codes "v") ∷ [])) (net.next_exp (net.cast cast.CObj (net.lit (net.short (pos 1) false))) net.no_exps)))) ∷
              (net.call (net.path ((codes "UpgradeSupport") ∷ (codes "PrintLine") ∷ [])) (net.next_exp (net.call_of (net.path ((codes
              "UpgradeSupport") ∷ (codes "PrintVar") ∷ [])) (net.next_exp (net.path ((codes "v") ∷ [])) net.no_exps)) net.no_exps))
              ∷
              (net.assign (net.path ((codes "y") ∷ [])) (net.cast cast.CByte (net.lit (net.short (pos 250) false)))) ∷
              (net.assign (net.path ((codes "v") ∷ [])) (net.cast cast.CObj (net.path ((codes "y") ∷ [])))) ∷
              (net.assign (net.path ((codes "v") ∷ [])) (net.call_of (net.path ((codes "UpgradeSupport") ∷ (codes "VarAdd") ∷ [])) (net.next_exp
              (net.path ((codes "v") ∷ [])) (net.next_exp (net.cast cast.CObj (net.path ((codes "y") ∷ []))) net.no_exps)))) ∷
              (net.call (net.path ((codes "UpgradeSupport") ∷ (codes "PrintLine") ∷ [])) (net.next_exp (net.call_of (net.path ((codes
              "UpgradeSupport") ∷ (codes "PrintVar") ∷ [])) (net.next_exp (net.path ((codes "v") ∷ [])) net.no_exps)) net.no_exps))
              ∷
              (net.assign (net.path ((codes "v") ∷ [])) (net.cast cast.CObj (net.lit (net.short (pos 5) false)))) ∷
              (net.call (net.path ((codes "UpgradeSupport") ∷ (codes "PrintLine") ∷ [])) (net.next_exp (net.binary net_bin.Concat (net.binary
              net_bin.Concat (net.binary net_bin.Concat (net.binary net_bin.Concat (net.binary net_bin.Concat (net.call_of (net.path
              ((codes "UpgradeSupport") ∷ (codes "PrintVar") ∷ [])) (net.next_exp (net.call_of (net.path ((codes "UpgradeSupport") ∷
              (codes "VarAdd") ∷ [])) (net.next_exp (net.path ((codes "v") ∷ [])) (net.next_exp (net.cast cast.CObj (net.lit (net.decimal
              (pos 15000)))) net.no_exps))) net.no_exps)) (net.call_of (net.path ((codes "UpgradeSupport") ∷ (codes "PrintVar") ∷ []))
              (net.next_exp (net.call_of (net.path ((codes "UpgradeSupport") ∷ (codes "VarMul") ∷ [])) (net.next_exp (net.path ((codes
              "v") ∷ [])) (net.next_exp (net.cast cast.CObj (net.lit (net.short (pos 2) false))) net.no_exps))) net.no_exps))) (net.call_of
              (net.path ((codes "UpgradeSupport") ∷ (codes "PrintVar") ∷ [])) (net.next_exp (net.call_of (net.path ((codes "UpgradeSupport")
              ∷ (codes "VarSub") ∷ [])) (net.next_exp (net.path ((codes "v") ∷ [])) (net.next_exp (net.cast cast.CObj (net.lit (net.short
              (pos 10) false))) net.no_exps))) net.no_exps))) (net.call_of (net.path ((codes "UpgradeSupport") ∷ (codes "PrintVar")
              ∷ [])) (net.next_exp (net.call_of (net.path ((codes "UpgradeSupport") ∷ (codes "VarDiv") ∷ [])) (net.next_exp (net.path
              ((codes "v") ∷ [])) (net.next_exp (net.cast cast.CObj (net.lit (net.short (pos 2) false))) net.no_exps))) net.no_exps)))
              (net.call_of (net.path ((codes "UpgradeSupport") ∷ (codes "PrintVar") ∷ [])) (net.next_exp (net.call_of (net.path ((codes
              "UpgradeSupport") ∷ (codes "VarMod") ∷ [])) (net.next_exp (net.path ((codes "v") ∷ [])) (net.next_exp (net.cast cast.CObj
              (net.lit (net.short (pos 3) false))) net.no_exps))) net.no_exps))) (net.call_of (net.path ((codes "UpgradeSupport") ∷
              (codes "PrintVar") ∷ [])) (net.next_exp (net.call_of (net.path ((codes "UpgradeSupport") ∷ (codes "VarNeg") ∷ [])) (net.next_exp
              (net.path ((codes "v") ∷ [])) net.no_exps)) net.no_exps))) net.no_exps)) ∷
              (net.assign (net.path ((codes "v") ∷ [])) (net.cast cast.CObj (net.lit (net.boolean true)))) ∷
              (net.call (net.path ((codes "UpgradeSupport") ∷ (codes "PrintLine") ∷ [])) (net.next_exp (net.binary net_bin.Concat (net.binary
              net_bin.Concat (net.call_of (net.path ((codes "UpgradeSupport") ∷ (codes "PrintVar") ∷ [])) (net.next_exp (net.call_of
              (net.path ((codes "UpgradeSupport") ∷ (codes "VarAdd") ∷ [])) (net.next_exp (net.path ((codes "v") ∷ [])) (net.next_exp
              (net.cast cast.CObj (net.lit (net.short (pos 1) false))) net.no_exps))) net.no_exps)) (net.call_of (net.path ((codes "UpgradeSupport")
              ∷ (codes "PrintVar") ∷ [])) (net.next_exp (net.path ((codes "v") ∷ [])) net.no_exps))) (net.call_of (net.path ((codes
              "UpgradeSupport") ∷ (codes "PrintVar") ∷ [])) (net.next_exp (net.call_of (net.path ((codes "UpgradeSupport") ∷ (codes
              "VarNot") ∷ [])) (net.next_exp (net.path ((codes "v") ∷ [])) net.no_exps)) net.no_exps))) net.no_exps)) ∷
              (net.call (net.path ((codes "UpgradeSupport") ∷ (codes "PrintLine") ∷ [])) (net.next_exp (net.binary net_bin.Concat (net.binary
              net_bin.Concat (net.call_of (net.path ((codes "UpgradeSupport") ∷ (codes "VarStr") ∷ [])) (net.next_exp net.nothing net.no_exps))
              (net.lit (net.str (codes "x")))) (net.call_of (net.path ((codes "UpgradeSupport") ∷ (codes "PrintVar") ∷ [])) (net.next_exp
              (net.call_of (net.path ((codes "UpgradeSupport") ∷ (codes "VarAdd") ∷ [])) (net.next_exp net.nothing (net.next_exp (net.cast
              cast.CObj (net.lit (net.short (pos 5) false))) net.no_exps))) net.no_exps))) net.no_exps)) ∷ []);
          close = close.EndSub;
        })) ∷ []);
  }) ∷ []);
  support = (record {
    name = (codes "UpgradeSupport");
    class = false;
    members = (
        (net.proc (record {
          head = (net.sub net_visible.Public (codes "PrintLine") ((record {
            passing = net_passing.Value;
            name
                = (codes "s");
            ty = net_types.str;
          }) ∷ []));
          prologue = ([]);
          lines = (
              (net.call (net.path ((codes "System") ∷ (codes "Console") ∷ (codes "WriteLine") ∷ [])) (net.next_exp (net.path ((codes
              "s") ∷ [])) net.no_exps)) ∷ []);
          close = close.EndSub;
        })) ∷
        (net.proc (record {
          head = (net.function net_visible.Public (codes "CurText") ((record {
            passing = net_passing.Value;
            name = (codes "d");
            ty = net_types.decimal;
          }) ∷ []) net_types.str);
          prologue = ([]);
          lines = (
              (net.assign (net.path ((codes "CurText") ∷ [])) (net.call_of (net.path ((codes "d") ∷ (codes "ToString") ∷ [])) (net.next_exp
              (net.lit (net.str (codes "0.####"))) (net.next_exp (net.path ((codes "System") ∷ (codes "Globalization") ∷ (codes "CultureInfo")
              ∷ (codes "InvariantCulture") ∷ [])) net.no_exps)))) ∷ []);
          close = close.EndFunction;
        })) ∷
        (net.proc (record {
          head = (net.function net_visible.Public (codes "PrintNum") ((record {
            passing = net_passing.Value;
            name = (codes "d");
            ty = net_types.decimal;
          }) ∷ []) net_types.str);
          prologue = ([]);
          lines = (
              (net.if_head (net.binary net_bin.Less (net.path ((codes "d") ∷ [])) (net.lit (net.decimal (pos 0))))) ∷
              (net.assign (net.path ((codes "PrintNum") ∷ [])) (net.binary net_bin.Concat (net.call_of (net.path ((codes "CurText")
              ∷ [])) (net.next_exp (net.path ((codes "d") ∷ [])) net.no_exps)) (net.lit (net.str (codes " "))))) ∷
              net.else_line ∷
              (net.assign (net.path ((codes "PrintNum") ∷ [])) (net.binary net_bin.Concat (net.binary net_bin.Concat (net.lit (net.str
              (codes " "))) (net.call_of (net.path ((codes "CurText") ∷ [])) (net.next_exp (net.path ((codes "d") ∷ [])) net.no_exps)))
              (net.lit (net.str (codes " "))))) ∷
              net.end_if ∷ []);
          close = close.EndFunction;
        })) ∷
        (net.proc (record {
          head = (net.function net_visible.Public (codes "PrintVar") ((record {
            passing = net_passing.Value;
            name = (codes "v");
            ty = net_types.object;
          }) ∷ []) net_types.str);
          prologue = ([]);
          lines = (
              (net.if_head (net.binary net_bin.Or (net.binary net_bin.Equal (net.call_of (net.path ((codes "Rank") ∷ [])) (net.next_exp
              (net.path ((codes "v") ∷ [])) net.no_exps)) (net.lit (net.integer (pos 6) false))) (net.binary net_bin.Or (net.binary
              net_bin.Is (net.path ((codes "v") ∷ [])) net.nothing) (net.type_of (net.path ((codes "v") ∷ [])) net_types.boolean))))
              ∷
              (net.assign (net.path ((codes "PrintVar") ∷ [])) (net.call_of (net.path ((codes "VarStr") ∷ [])) (net.next_exp (net.path
              ((codes "v") ∷ [])) net.no_exps))) ∷
              net.else_line ∷
              (net.assign (net.path ((codes "PrintVar") ∷ [])) (net.call_of (net.path ((codes "PrintNum") ∷ [])) (net.next_exp (net.call_of
              (net.path ((codes "Num") ∷ [])) (net.next_exp (net.path ((codes "v") ∷ [])) net.no_exps)) net.no_exps))) ∷
              net.end_if ∷ []);
          close = close.EndFunction;
        })) ∷
        (net.proc (record {
          head = (net.function net_visible.Public (codes "Cur") ((record {
            passing = net_passing.Value;
            name
                = (codes "d");
            ty = net_types.decimal;
          }) ∷ []) net_types.decimal);
          prologue = ([]);
          lines = (
              (net.if_head (net.binary net_bin.Or (net.binary net_bin.Less (net.path ((codes "d") ∷ [])) (net.unary net_un.Neg (net.lit
              (net.decimal (pos 9223372036854775808))))) (net.binary net_bin.Greater (net.path ((codes "d") ∷ [])) (net.lit (net.decimal
              (pos 9223372036854775807)))))) ∷
              (net.call (net.path ((codes "Raise") ∷ [])) (net.next_exp (net.lit (net.integer (pos 6) false)) net.no_exps)) ∷
              net.end_if ∷
              (net.assign (net.path ((codes "Cur") ∷ [])) (net.path ((codes "d") ∷ []))) ∷ []);
          close = close.EndFunction;
        })) ∷
        (net.proc (record {
          head = (net.sub net_visible.Public (codes "Raise") ((record {
            passing = net_passing.Value;
            name =
                (codes "n");
            ty = net_types.integer;
          }) ∷ []));
          prologue = ([]);
          lines = (
              (net.call (net.dot (net.call_of (net.path ((codes "Microsoft") ∷ (codes "VisualBasic") ∷ (codes "Information") ∷ (codes
              "Err") ∷ [])) net.no_exps) (codes "Raise")) (net.next_exp (net.path ((codes "n") ∷ [])) net.no_exps)) ∷ []);
          close = close.EndSub;
        })) ∷
        (net.proc (record {
          head = (net.function net_visible.Public (codes "Rank") ((record {
            passing = net_passing.Value;
            name
                = (codes "v");
            ty = net_types.object;
          }) ∷ []) net_types.integer);
          prologue = ([]);
          lines = (
              (net.if_head (net.type_of (net.path ((codes "v") ∷ [])) net_types.str)) ∷
              (net.assign (net.path ((codes "Rank") ∷ [])) (net.lit (net.integer (pos 6) false))) ∷
              (net.else_if (net.type_of (net.path ((codes "v") ∷ [])) net_types.decimal)) ∷
              (net.assign (net.path ((codes "Rank") ∷ [])) (net.lit (net.integer (pos 5) false))) ∷
              (net.else_if (net.type_of (net.path ((codes "v") ∷ [])) net_types.integer)) ∷
              (net.assign (net.path ((codes "Rank") ∷ [])) (net.lit (net.integer (pos 4) false))) ∷
              (net.else_if (net.type_of (net.path ((codes "v") ∷ [])) net_types.byte)) ∷
              (net.assign (net.path ((codes "Rank") ∷ [])) (net.lit (net.integer (pos 2) false))) ∷
              net.else_line ∷
              (net.assign (net.path ((codes "Rank") ∷ [])) (net.lit (net.integer (pos 3) false))) ∷
              net.end_if ∷ []);
          close = close.EndFunction;
        })) ∷
        (net.proc (record {
          head = (net.function net_visible.Public (codes "Wider") ((record {
            passing = net_passing.Value;
            name
                = (codes "a");
            ty = net_types.object;
          }) ∷ (record {
            passing = net_passing.Value;
            name = (codes "b");
            ty = net_types.object;
          }) ∷ []) net_types.integer);
          prologue = ([]);
          lines = (
              (net.assign (net.path ((codes "Wider") ∷ [])) (net.call_of (net.path ((codes "System") ∷ (codes "Math") ∷ (codes "Max")
              ∷ [])) (net.next_exp (net.call_of (net.path ((codes "Rank") ∷ [])) (net.next_exp (net.path ((codes "a") ∷ [])) net.no_exps))
              (net.next_exp (net.call_of (net.path ((codes "Rank") ∷ [])) (net.next_exp (net.path ((codes "b") ∷ [])) net.no_exps))
              net.no_exps)))) ∷ []);
          close = close.EndFunction;
        })) ∷
        (net.proc (record {
          head = (net.function net_visible.Public (codes "Num") ((record {
            passing = net_passing.Value;
            name
                = (codes "v");
            ty = net_types.object;
          }) ∷ []) net_types.decimal);
          prologue = ([]);
          lines = (
              (net.if_head (net.binary net_bin.Equal (net.call_of (net.path ((codes "Rank") ∷ [])) (net.next_exp (net.path ((codes "v")
              ∷ [])) net.no_exps)) (net.lit (net.integer (pos 6) false)))) ∷
              (net.call (net.path ((codes "Raise") ∷ [])) (net.next_exp (net.lit (net.integer (pos 13) false)) net.no_exps)) ∷
              net.end_if ∷
              (net.assign (net.path ((codes "Num") ∷ [])) (net.cast cast.CDec (net.path ((codes "v") ∷ [])))) ∷ []);
          close = close.EndFunction;
        })) ∷
        (net.proc (record {
          head = (net.function net_visible.Public (codes "Fit") ((record {
            passing = net_passing.Value;
            name
                = (codes "d");
            ty = net_types.decimal;
          }) ∷ (record {
            passing = net_passing.Value;
            name = (codes "k");
            ty = net_types.integer;
          }) ∷ []) net_types.object);
          prologue = ([]);
          lines = (
              (net.if_head (net.binary net_bin.Equal (net.path ((codes "k") ∷ [])) (net.lit (net.integer (pos 5) false)))) ∷
              (net.assign (net.path ((codes "Fit") ∷ [])) (net.call_of (net.path ((codes "Cur") ∷ [])) (net.next_exp (net.path ((codes
              "d") ∷ [])) net.no_exps))) ∷
              (net.else_if (net.binary net_bin.And (net.binary net_bin.And (net.binary net_bin.Equal (net.path ((codes "k") ∷ [])) (net.lit
              (net.integer (pos 2) false))) (net.binary net_bin.GreaterEqual (net.path ((codes "d") ∷ [])) (net.lit (net.decimal (pos
              0))))) (net.binary net_bin.LessEqual (net.path ((codes "d") ∷ [])) (net.lit (net.decimal (pos 2550000)))))) ∷
              (net.assign (net.path ((codes "Fit") ∷ [])) (net.cast cast.CByte (net.path ((codes "d") ∷ [])))) ∷
              (net.else_if (net.binary net_bin.And (net.binary net_bin.And (net.binary net_bin.Less (net.path ((codes "k") ∷ [])) (net.lit
              (net.integer (pos 4) false))) (net.binary net_bin.GreaterEqual (net.path ((codes "d") ∷ [])) (net.unary net_un.Neg (net.lit
              (net.decimal (pos 327680000)))))) (net.binary net_bin.LessEqual (net.path ((codes "d") ∷ [])) (net.lit (net.decimal (pos
              327670000)))))) ∷
              (net.assign (net.path ((codes "Fit") ∷ [])) (net.cast cast.CShort (net.path ((codes "d") ∷ [])))) ∷
              net.else_line ∷
              (net.assign (net.path ((codes "Fit") ∷ [])) (net.cast cast.CInt (net.path ((codes "d") ∷ [])))) ∷
              net.end_if ∷ []);
          close = close.EndFunction;
        })) ∷
        (net.proc (record {
          head = (net.function net_visible.Public (codes "VarAdd") ((record {
            passing = net_passing.Value;
            name
                = (codes "a");
            ty = net_types.object;
          }) ∷ (record {
            passing = net_passing.Value;
            name = (codes "b");
            ty = net_types.object;
          }) ∷ []) net_types.object);
          prologue = ([]);
          lines = (
              (net.if_head (net.binary net_bin.Equal (net.call_of (net.path ((codes "Wider") ∷ [])) (net.next_exp (net.path ((codes
              "a") ∷ [])) (net.next_exp (net.path ((codes "b") ∷ [])) net.no_exps))) (net.lit (net.integer (pos 6) false)))) ∷
              (net.assign (net.path ((codes "VarAdd") ∷ [])) (net.binary net_bin.Concat (net.call_of (net.path ((codes "VarStr") ∷ []))
              (net.next_exp (net.path ((codes "a") ∷ [])) net.no_exps)) (net.call_of (net.path ((codes "VarStr") ∷ [])) (net.next_exp
              (net.path ((codes "b") ∷ [])) net.no_exps)))) ∷
              net.else_line ∷
              (net.assign (net.path ((codes "VarAdd") ∷ [])) (net.call_of (net.path ((codes "Fit") ∷ [])) (net.next_exp (net.binary
              net_bin.Add (net.call_of (net.path ((codes "Num") ∷ [])) (net.next_exp (net.path ((codes "a") ∷ [])) net.no_exps)) (net.call_of
              (net.path ((codes "Num") ∷ [])) (net.next_exp (net.path ((codes "b") ∷ [])) net.no_exps))) (net.next_exp (net.call_of
              (net.path ((codes "Wider") ∷ [])) (net.next_exp (net.path ((codes "a") ∷ [])) (net.next_exp (net.path ((codes "b") ∷ []))
              net.no_exps))) net.no_exps)))) ∷
              net.end_if ∷ []);
          close = close.EndFunction;
        })) ∷
        (net.proc (record {
          head = (net.function net_visible.Public (codes "VarSub") ((record {
            passing = net_passing.Value;
            name
                = (codes "a");
            ty = net_types.object;
          }) ∷ (record {
            passing = net_passing.Value;
            name = (codes "b");
            ty = net_types.object;
          }) ∷ []) net_types.object);
          prologue = ([]);
          lines = (
              (net.assign (net.path ((codes "VarSub") ∷ [])) (net.call_of (net.path ((codes "Fit") ∷ [])) (net.next_exp (net.binary
              net_bin.Sub (net.call_of (net.path ((codes "Num") ∷ [])) (net.next_exp (net.path ((codes "a") ∷ [])) net.no_exps)) (net.call_of
              (net.path ((codes "Num") ∷ [])) (net.next_exp (net.path ((codes "b") ∷ [])) net.no_exps))) (net.next_exp (net.call_of
              (net.path ((codes "Wider") ∷ [])) (net.next_exp (net.path ((codes "a") ∷ [])) (net.next_exp (net.path ((codes "b") ∷ []))
              net.no_exps))) net.no_exps)))) ∷ []);
          close = close.EndFunction;
        })) ∷
        (net.proc (record {
          head = (net.function net_visible.Public (codes "VarMul") ((record {
            passing = net_passing.Value;
            name
                = (codes "a");
            ty = net_types.object;
          }) ∷ (record {
            passing = net_passing.Value;
            name = (codes "b");
            ty = net_types.object;
          }) ∷ []) net_types.object);
          prologue = ([]);
          lines = (
              (net.assign (net.path ((codes "VarMul") ∷ [])) (net.call_of (net.path ((codes "Fit") ∷ [])) (net.next_exp (net.binary
              net_bin.Mul (net.call_of (net.path ((codes "Num") ∷ [])) (net.next_exp (net.path ((codes "a") ∷ [])) net.no_exps)) (net.call_of
              (net.path ((codes "Num") ∷ [])) (net.next_exp (net.path ((codes "b") ∷ [])) net.no_exps))) (net.next_exp (net.call_of
              (net.path ((codes "Wider") ∷ [])) (net.next_exp (net.path ((codes "a") ∷ [])) (net.next_exp (net.path ((codes "b") ∷ []))
              net.no_exps))) net.no_exps)))) ∷ []);
          close = close.EndFunction;
        })) ∷
        (net.proc (record {
          head = (net.function net_visible.Public (codes "VarDiv") ((record {
            passing = net_passing.Value;
            name
                = (codes "a");
            ty = net_types.object;
          }) ∷ (record {
            passing = net_passing.Value;
            name = (codes "b");
            ty = net_types.object;
          }) ∷ []) net_types.object);
          prologue = ([]);
          lines = (
              (net.assign (net.path ((codes "VarDiv") ∷ [])) (net.call_of (net.path ((codes "Fit") ∷ [])) (net.next_exp (net.cast cast.CDec
              (net.binary net_bin.IntDiv (net.cast cast.CInt (net.call_of (net.path ((codes "Num") ∷ [])) (net.next_exp (net.path ((codes
              "a") ∷ [])) net.no_exps))) (net.cast cast.CInt (net.call_of (net.path ((codes "Num") ∷ [])) (net.next_exp (net.path ((codes
              "b") ∷ [])) net.no_exps))))) (net.next_exp (net.call_of (net.path ((codes "System") ∷ (codes "Math") ∷ (codes "Min") ∷
              [])) (net.next_exp (net.call_of (net.path ((codes "Wider") ∷ [])) (net.next_exp (net.path ((codes "a") ∷ [])) (net.next_exp
              (net.path ((codes "b") ∷ [])) net.no_exps))) (net.next_exp (net.lit (net.integer (pos 4) false)) net.no_exps))) net.no_exps))))
              ∷ []);
          close = close.EndFunction;
        })) ∷
        (net.proc (record {
          head = (net.function net_visible.Public (codes "VarMod") ((record {
            passing = net_passing.Value;
            name
                = (codes "a");
            ty = net_types.object;
          }) ∷ (record {
            passing = net_passing.Value;
            name = (codes "b");
            ty = net_types.object;
          }) ∷ []) net_types.object);
          prologue = ([]);
          lines = (
              (net.assign (net.path ((codes "VarMod") ∷ [])) (net.call_of (net.path ((codes "Fit") ∷ [])) (net.next_exp (net.cast cast.CDec
              (net.binary net_bin.Mod (net.cast cast.CInt (net.call_of (net.path ((codes "Num") ∷ [])) (net.next_exp (net.path ((codes
              "a") ∷ [])) net.no_exps))) (net.cast cast.CInt (net.call_of (net.path ((codes "Num") ∷ [])) (net.next_exp (net.path ((codes
              "b") ∷ [])) net.no_exps))))) (net.next_exp (net.call_of (net.path ((codes "System") ∷ (codes "Math") ∷ (codes "Min") ∷
              [])) (net.next_exp (net.call_of (net.path ((codes "Wider") ∷ [])) (net.next_exp (net.path ((codes "a") ∷ [])) (net.next_exp
              (net.path ((codes "b") ∷ [])) net.no_exps))) (net.next_exp (net.lit (net.integer (pos 4) false)) net.no_exps))) net.no_exps))))
              ∷ []);
          close = close.EndFunction;
        })) ∷
        (net.proc (record {
          head = (net.function net_visible.Public (codes "VarNeg") ((record {
            passing = net_passing.Value;
            name
                = (codes "a");
            ty = net_types.object;
          }) ∷ []) net_types.object);
          prologue = ([]);
          lines = (
              (net.assign (net.path ((codes "VarNeg") ∷ [])) (net.call_of (net.path ((codes "Fit") ∷ [])) (net.next_exp (net.unary net_un.Neg
              (net.call_of (net.path ((codes "Num") ∷ [])) (net.next_exp (net.path ((codes "a") ∷ [])) net.no_exps))) (net.next_exp
              (net.call_of (net.path ((codes "Rank") ∷ [])) (net.next_exp (net.path ((codes "a") ∷ [])) net.no_exps)) net.no_exps))))
              ∷ []);
          close = close.EndFunction;
        })) ∷
        (net.proc (record {
          head = (net.function net_visible.Public (codes "VarNot") ((record {
            passing = net_passing.Value;
            name
                = (codes "a");
            ty = net_types.object;
          }) ∷ []) net_types.object);
          prologue = ([]);
          lines = (
              (net.if_head (net.type_of (net.path ((codes "a") ∷ [])) net_types.boolean)) ∷
              (net.assign (net.path ((codes "VarNot") ∷ [])) (net.unary net_un.Not (net.cast cast.CBool (net.path ((codes "a") ∷ [])))))
              ∷
              net.else_line ∷
              (net.assign (net.path ((codes "VarNot") ∷ [])) (net.call_of (net.path ((codes "Fit") ∷ [])) (net.next_exp (net.cast cast.CDec
              (net.unary net_un.Not (net.cast cast.CInt (net.call_of (net.path ((codes "Num") ∷ [])) (net.next_exp (net.path ((codes
              "a") ∷ [])) net.no_exps))))) (net.next_exp (net.call_of (net.path ((codes "System") ∷ (codes "Math") ∷ (codes "Min") ∷
              [])) (net.next_exp (net.call_of (net.path ((codes "Rank") ∷ [])) (net.next_exp (net.path ((codes "a") ∷ [])) net.no_exps))
              (net.next_exp (net.lit (net.integer (pos 4) false)) net.no_exps))) net.no_exps)))) ∷
              net.end_if ∷ []);
          close = close.EndFunction;
        })) ∷
        (net.proc (record {
          head = (net.function net_visible.Public (codes "VarStr") ((record {
            passing = net_passing.Value;
            name
                = (codes "v");
            ty = net_types.object;
          }) ∷ []) net_types.str);
          prologue = ([]);
          lines = (
              (net.if_head (net.type_of (net.path ((codes "v") ∷ [])) net_types.decimal)) ∷
              (net.assign (net.path ((codes "VarStr") ∷ [])) (net.call_of (net.path ((codes "CurText") ∷ [])) (net.next_exp (net.cast
              cast.CDec (net.path ((codes "v") ∷ []))) net.no_exps))) ∷
              net.else_line ∷
              (net.assign (net.path ((codes "VarStr") ∷ [])) (net.cast cast.CStr (net.path ((codes "v") ∷ [])))) ∷
              net.end_if ∷ []);
          close = close.EndFunction;
        })) ∷ []);
  });
})

abbrev pub runnable : Runnable
runnable = runnable_of program quiet lows

said : ran runnable 0 2000 ≡ (
  line (codes " 32768 ")
      ++ line (codes " 500 ")
      ++ line (codes " 6.5  10 -5  2  2 -5 ")
      ++ line (codes " 0 TrueFalse")
      ++ line (codes "x 5 "),
  ended,
)
unfolding digits from_bits
said = refl

said_written : ran_written written 0 2000 ≡ (
  line (codes " 32768 ")
      ++ line (codes " 500 ")
      ++ line (codes " 6.5  10 -5  2  2 -5 ")
      ++ line (codes " 0 TrueFalse")
      ++ line (codes "x 5 "),
  ended,
)
unfolding digits from_bits
said_written = refl
