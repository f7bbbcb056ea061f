-- The program calls-user-types-of-other-modules, what it puts out and how it ends.
use Rattle.std.proofs.Common.{◌≡◌, refl, ◌++◌, List, ℤ, pos, Bool, true, false, [], ◌∷◌, codes, Some, None}
use Rattle.vb_tree.specs.declared.declared.VarId.{VarId}
use Rattle.bound_tree.specs.Tree as bound
use Rattle.net_tree.specs.Tree as net
use Rattle.net_tree.specs.Types as net_types
use Rattle.vb_tree.specs.BoundTree as types
use Rattle.vb_tree.specs.Tree as vb
use Rattle.vb_tree.specs.declared.expression.BinOp.TheVariants as bin
use Rattle.net_tree.specs.declared.expression.CastWord.TheVariants as cast
use Rattle.net_tree.specs.declared.declaration.NetClose.TheVariants as close
use Rattle.vb_tree.specs.declared.declared.ProcKind.TheVariants as kind
use Rattle.vb_tree.specs.declared.token.Literal6.TheVariants as literal
use Rattle.bound_tree.specs.declared.body.Mention.TheVariants as mention
use Rattle.bound_tree.specs.declared.declared.Named.TheVariants as named
use Rattle.net_tree.specs.declared.expression.NetBin.TheVariants as net_bin
use Rattle.net_tree.specs.declared.declaration.NetPassing.TheVariants as net_passing
use Rattle.net_tree.specs.declared.declaration.NetVisibility.TheVariants as net_visible
use Rattle.bound_tree.specs.declared.expression.Origin.TheVariants as origin
use Rattle.vb_tree.specs.declared.declared.Owner.TheVariants as owner
use Rattle.vb_tree.specs.declared.form_parts.Passing.TheVariants as passing
use Rattle.vb_tree.specs.declared.project.ProjectKind.TheVariants as project_kind
use Rattle.bound_tree.specs.declared.declared.Scope.TheVariants as scope
use Rattle.vb_tree.specs.declared.token.Suffix.TheVariants as suffix
use Rattle.vb_tree.specs.declared.value.Value6.TheVariants as value
use Rattle.vb_tree.specs.declared.form_parts.VarWord.TheVariants as var
use Rattle.vb_tree.specs.declared.form_parts.Visibility.TheVariants as visible
use Rattle.std.specs.Fmt.{digits}
use Rattle.example_runs.proofs.Said.{ended, line, ran, ran_written, runnable_of}
use Rattle.vb6_run.specs.Runnables.{Runnable}

abbrev pub project : vb.Project
project = (record {
  file = (record {
    kind = project_kind.Exe;
    startup = (Some (5, (codes "Sub Main")));
    entries = ((record
        { line = 2; class = false; name = (codes "Main1"); file = (codes "Main1.bas") }) ∷ (record {
          line = 3;
          class = false;
          name = (codes "Other");
          file = (codes "Other.bas");
        }) ∷ (record {
          line = 4;
          class = true;
          name = (codes "Node");
          file
              = (codes "Node.cls");
        }) ∷ []);
    dropped = ([]);
  });
  modules = ((record {
    file = 1;
    name = (codes "Main1");
    class = false;
    members = (
        (vb.proc (record {
          place = (record { file = 1; line = 1 });
          text = (codes "Sub Inc(n As Long)");
          form = (vb.sub_head (record {
            visibility = None;
            name = (codes "Inc");
            suffix = suffix.Absent;
            params = ((record {
              optional = false;
              passing = passing.Unsaid;
              param_array = false;
              name = (codes "n");
              suffix = suffix.Absent;
              array = false;
              ty = (Some (vb.named (codes "Long")));
              preset = None;
            }) ∷ []);
          }));
        }) (vb.next_node
        (vb.line (record {
          place = (record { file = 1; line = 2 });
          text = (codes "n = n + 1");
          form = (vb.assign (vb.word (codes
              "n") suffix.Absent) (vb.binary bin.Add (vb.word (codes "n") suffix.Absent) (vb.lit (literal.Int (pos 1) false))));
        }))
        vb.no_nodes) (record { place = (record { file = 1; line = 3 }); text = (codes "End Sub"); form = vb.end_sub })) ∷
        (vb.proc (record {
          place = (record { file = 1; line = 5 });
          text = (codes "Sub Main()");
          form = (vb.sub_head (record {
            visibility = None;
            name = (codes "Main");
            suffix = suffix.Absent;
            params = ([]);
          }));
        }) (vb.next_node
        (vb.line (record {
          place = (record { file = 1; line = 6 });
          text = (codes "Other.P.X = 5");
          form = (vb.assign (vb.member
              (vb.member (vb.word (codes "Other") suffix.Absent) (codes "P")) (codes "X")) (vb.lit (literal.Int (pos 5) false)));
        }))
        (vb.next_node
        (vb.line (record {
          place = (record { file = 1; line = 7 });
          text = (codes "P.Y = Other.P.X + 1");
          form = (vb.assign
              (vb.member (vb.word (codes "P") suffix.Absent) (codes "Y")) (vb.binary bin.Add (vb.member (vb.member (vb.word (codes "Other")
              suffix.Absent) (codes "P")) (codes "X")) (vb.lit (literal.Int (pos 1) false))));
        })) (vb.next_node
        (vb.line (record {
          place = (record { file = 1; line = 8 });
          text = (codes "Inc Other.P.X");
          form = (vb.invoke (vb.word
              (codes "Inc") suffix.Absent) (vb.next_arg None false (vb.given (vb.member (vb.member (vb.word (codes "Other") suffix.Absent)
              (codes "P")) (codes "X"))) vb.no_args));
        })) (vb.next_node
        (vb.line (record {
          place = (record { file = 1; line = 9 });
          text = (codes "Inc P.Q.Z");
          form = (vb.invoke (vb.word (codes
              "Inc") suffix.Absent) (vb.next_arg None false (vb.given (vb.member (vb.member (vb.word (codes "P") suffix.Absent) (codes
              "Q")) (codes "Z"))) vb.no_args));
        })) (vb.next_node
        (vb.line (record {
          place = (record { file = 1; line = 10 });
          text = (codes "Debug.Print Other.P.X; P.Y; Other.P.Q.Z");
          form = (vb.debug_print ((vb.member (vb.member (vb.word (codes "Other") suffix.Absent) (codes "P")) (codes "X")) ∷ (vb.member
              (vb.word (codes "P") suffix.Absent) (codes "Y")) ∷ (vb.member (vb.member (vb.member (vb.word (codes "Other") suffix.Absent)
              (codes "P")) (codes "Q")) (codes "Z")) ∷ []) false);
        })) (vb.next_node
        (vb.line (record {
          place = (record { file = 1; line = 11 });
          text = (codes "Set Other.O = New Node");
          form = (vb.set
              (vb.member (vb.word (codes "Other") suffix.Absent) (codes "O")) (vb.new_object (codes "Node")));
        })) (vb.next_node
        (vb.line (record {
          place = (record { file = 1; line = 12 });
          text = (codes "Other.O.k = 3");
          form = (vb.assign (vb.member
              (vb.member (vb.word (codes "Other") suffix.Absent) (codes "O")) (codes "k")) (vb.lit (literal.Int (pos 3) false)));
        }))
        (vb.next_node
        (vb.line (record {
          place = (record { file = 1; line = 13 });
          text = (codes "Debug.Print Other.O.k; O.Twice(2); Make(4).X; Other.Make(5).Q.Z");
          form = (vb.debug_print ((vb.member (vb.member (vb.word (codes "Other") suffix.Absent) (codes "O")) (codes "k")) ∷ (vb.index
              (vb.member (vb.word (codes "O") suffix.Absent) (codes "Twice")) (vb.next_arg None false (vb.given (vb.lit (literal.Int
              (pos 2) false))) vb.no_args)) ∷ (vb.member (vb.index (vb.word (codes "Make") suffix.Absent) (vb.next_arg None false (vb.given
              (vb.lit (literal.Int (pos 4) false))) vb.no_args)) (codes "X")) ∷ (vb.member (vb.member (vb.index (vb.member (vb.word
              (codes "Other") suffix.Absent) (codes "Make")) (vb.next_arg None false (vb.given (vb.lit (literal.Int (pos 5) false)))
              vb.no_args)) (codes "Q")) (codes "Z")) ∷ []) false);
        })) vb.no_nodes)))))))) (record {
          place = (record {
            file = 1;
            line
                = 14;
          });
          text = (codes "End Sub");
          form = vb.end_sub;
        })) ∷ []);
    comments = ([]);
  }) ∷ (record {
    file = 2;
    name = (codes
        "Other");
    class = false;
    members = (
        (vb.group (record {
          place = (record { file = 2; line = 1 });
          text = (codes "Public Type Inner");
          form = (vb.type_head
              (Some visible.Public) (codes "Inner") suffix.Absent);
        }) ((record {
          place = (record { file = 2; line = 2 });
          text = (codes
              "Z As Long");
          form = (vb.field (codes "Z") suffix.Absent None (vb.named (codes "Long")));
        }) ∷ []) (record {
          place = (record
              { file = 2; line = 3 });
          text = (codes "End Type");
          form = vb.end_type;
        })) ∷
        (vb.group (record {
          place = (record { file = 2; line = 4 });
          text = (codes "Public Type Point");
          form = (vb.type_head
              (Some visible.Public) (codes "Point") suffix.Absent);
        }) ((record {
          place = (record { file = 2; line = 5 });
          text = (codes
              "X As Long");
          form = (vb.field (codes "X") suffix.Absent None (vb.named (codes "Long")));
        }) ∷ (record {
          place = (record
              { file = 2; line = 6 });
          text = (codes "Y As Long");
          form = (vb.field (codes "Y") suffix.Absent None (vb.named (codes
              "Long")));
        }) ∷ (record {
          place = (record { file = 2; line = 7 });
          text = (codes "Q As Inner");
          form = (vb.field (codes
              "Q") suffix.Absent None (vb.named (codes "Inner")));
        }) ∷ []) (record {
          place = (record { file = 2; line = 8 });
          text =
              (codes "End Type");
          form = vb.end_type;
        })) ∷
        (vb.alone (record {
          place = (record { file = 2; line = 9 });
          text = (codes "Public P As Point");
          form = (vb.variables
              var.Public ((record {
                name = (codes "P");
                suffix = suffix.Absent;
                bounds = None;
                auto = false;
                ty = (Some (vb.named (codes
                    "Point")));
              }) ∷ []));
        })) ∷
        (vb.alone (record {
          place = (record { file = 2; line = 10 });
          text = (codes "Public O As Node");
          form = (vb.variables
              var.Public ((record {
                name = (codes "O");
                suffix = suffix.Absent;
                bounds = None;
                auto = false;
                ty = (Some (vb.named (codes
                    "Node")));
              }) ∷ []));
        })) ∷
        (vb.proc (record {
          place = (record { file = 2; line = 12 });
          text = (codes "Public Function Make(ByVal n As Long) As Point");
          form = (vb.function_head (record {
            visibility = (Some visible.Public);
            name = (codes "Make");
            suffix = suffix.Absent;
            params = ((record {
              optional = false;
              passing = passing.Value;
              param_array = false;
              name = (codes "n");
              suffix = suffix.Absent;
              array = false;
              ty = (Some (vb.named (codes "Long")));
              preset = None;
            }) ∷ []);
          }) (Some (record {
            ty = (vb.named (codes
                "Point"));
            array = false;
          })));
        }) (vb.next_node
        (vb.line (record {
          place = (record { file = 2; line = 13 });
          text = (codes "Make.X = n");
          form = (vb.assign (vb.member
              (vb.word (codes "Make") suffix.Absent) (codes "X")) (vb.word (codes "n") suffix.Absent));
        })) (vb.next_node
        (vb.line (record {
          place = (record { file = 2; line = 14 });
          text = (codes "Make.Q.Z = n * 2");
          form = (vb.assign (vb.member
              (vb.member (vb.word (codes "Make") suffix.Absent) (codes "Q")) (codes "Z")) (vb.binary bin.Mul (vb.word (codes "n") suffix.Absent)
              (vb.lit (literal.Int (pos 2) false))));
        })) vb.no_nodes)) (record {
          place = (record { file = 2; line = 15 });
          text = (codes
              "End Function");
          form = vb.end_function;
        })) ∷ []);
    comments = ([]);
  }) ∷ (record {
    file = 3;
    name = (codes "Node");
    class
        = true;
    members = (
        (vb.alone (record {
          place = (record { file = 3; line = 4 });
          text = (codes "Public k As Long");
          form = (vb.variables var.Public
              ((record {
                name = (codes "k");
                suffix = suffix.Absent;
                bounds = None;
                auto = false;
                ty = (Some (vb.named (codes "Long")));
              }) ∷ []));
        })) ∷
        (vb.proc (record {
          place = (record { file = 3; line = 6 });
          text = (codes "Public Function Twice(ByVal n As Long) As Long");
          form = (vb.function_head (record {
            visibility = (Some visible.Public);
            name = (codes "Twice");
            suffix = suffix.Absent;
            params = ((record {
              optional = false;
              passing = passing.Value;
              param_array = false;
              name = (codes "n");
              suffix = suffix.Absent;
              array = false;
              ty = (Some (vb.named (codes "Long")));
              preset = None;
            }) ∷ []);
          }) (Some (record {
            ty = (vb.named (codes
                "Long"));
            array = false;
          })));
        }) (vb.next_node
        (vb.line (record {
          place = (record { file = 3; line = 7 });
          text = (codes "Twice = n * k");
          form = (vb.assign (vb.word
              (codes "Twice") suffix.Absent) (vb.binary bin.Mul (vb.word (codes "n") suffix.Absent) (vb.word (codes "k") suffix.Absent)));
        })) vb.no_nodes) (record {
          place = (record { file = 3; line = 8 });
          text = (codes "End Function");
          form = vb.end_function;
        })) ∷ []);
    comments = ([]);
  }) ∷ []);
})

abbrev pub declarations : bound.Declarations
declarations = (record {
  project = project;
  names = (
      (record { name = (codes "Inc"); scope = (scope.Public 1); named = (named.Proc (record { 0 = 0 })) }) ∷
      (record { name = (codes "n"); scope = (scope.Local (record { 0 = 0 })); named = (named.Var (record { 0 = 0 })) }) ∷
      (record { name = (codes "Main"); scope = (scope.Public 1); named = (named.Proc (record { 0 = 1 })) }) ∷
      (record { name = (codes "Inner"); scope = (scope.Public 2); named = (named.Type (record { 0 = 0 })) }) ∷
      (record { name = (codes "Point"); scope = (scope.Public 2); named = (named.Type (record { 0 = 1 })) }) ∷
      (record { name = (codes "P"); scope = (scope.Public 2); named = (named.Var (record { 0 = 5 })) }) ∷
      (record { name = (codes "O"); scope = (scope.Public 2); named = (named.Var (record { 0 = 6 })) }) ∷
      (record { name = (codes "Make"); scope = (scope.Public 2); named = (named.Proc (record { 0 = 2 })) }) ∷
      (record { name = (codes "n"); scope = (scope.Local (record { 0 = 2 })); named = (named.Var (record { 0 = 7 })) }) ∷
      (record { name = (codes "Make"); scope = (scope.Local (record { 0 = 2 })); named = (named.Var (record { 0 = 8 })) }) ∷
      (record { name = (codes "k"); scope = (scope.Public 3); named = (named.Var (record { 0 = 9 })) }) ∷
      (record { name = (codes "Twice"); scope = (scope.Public 3); named = (named.Proc (record { 0 = 3 })) }) ∷
      (record { name = (codes "n"); scope = (scope.Local (record { 0 = 3 })); named = (named.Var (record { 0 = 10 })) }) ∷
      (record { name = (codes "Twice"); scope = (scope.Local (record { 0 = 3 })); named = (named.Var (record { 0 = 11 })) })
      ∷ []);
  vars = (
      (record {
        name = (codes "n");
        place = (record { file = 1; line = 1 });
        statement = 0;
        owner = (owner.Reference (record
            { 0 = 0 }));
        ty = types.long;
        named = types.long;
        qualified = false;
        lettered = None;
        bounds = ([]);
        auto = false;
        preset
            = None;
      }) ∷
      (record {
        name = (codes "Z");
        place = (record { file = 2; line = 2 });
        statement = 1;
        owner = (owner.Field (record {
          0
              = 0;
        }));
        ty = types.long;
        named = types.long;
        qualified = false;
        lettered = None;
        bounds = ([]);
        auto = false;
        preset
            = None;
      }) ∷
      (record {
        name = (codes "X");
        place = (record { file = 2; line = 5 });
        statement = 4;
        owner = (owner.Field (record {
          0
              = 1;
        }));
        ty = types.long;
        named = types.long;
        qualified = false;
        lettered = None;
        bounds = ([]);
        auto = false;
        preset
            = None;
      }) ∷
      (record {
        name = (codes "Y");
        place = (record { file = 2; line = 6 });
        statement = 5;
        owner = (owner.Field (record {
          0
              = 1;
        }));
        ty = types.long;
        named = types.long;
        qualified = false;
        lettered = None;
        bounds = ([]);
        auto = false;
        preset
            = None;
      }) ∷
      (record {
        name = (codes "Q");
        place = (record { file = 2; line = 7 });
        statement = 6;
        owner = (owner.Field (record {
          0
              = 1;
        }));
        ty = (types.user 0);
        named = (types.user 0);
        qualified = false;
        lettered = None;
        bounds = ([]);
        auto = false;
        preset = None;
      }) ∷
      (record {
        name = (codes "P");
        place = (record { file = 2; line = 9 });
        statement = 8;
        owner = (owner.Module 2);
        ty = (types.user
            1);
        named = (types.user 1);
        qualified = false;
        lettered = None;
        bounds = ([]);
        auto = false;
        preset = None;
      }) ∷
      (record {
        name = (codes "O");
        place = (record { file = 2; line = 10 });
        statement = 9;
        owner = (owner.Module 2);
        ty =
            (types.class 0);
        named = (types.class 0);
        qualified = false;
        lettered = None;
        bounds = ([]);
        auto = false;
        preset = None;
      }) ∷
      (record {
        name = (codes "n");
        place = (record { file = 2; line = 12 });
        statement = 10;
        owner = (owner.Value (record {
          0 = 2;
        }));
        ty = types.long;
        named = types.long;
        qualified = false;
        lettered = None;
        bounds = ([]);
        auto = false;
        preset
            = None;
      }) ∷
      (record {
        name = (codes "Make");
        place = (record { file = 2; line = 12 });
        statement = 10;
        owner = (owner.Answer (record
            { 0 = 2 }));
        ty = (types.user 1);
        named = (types.user 1);
        qualified = false;
        lettered = None;
        bounds = ([]);
        auto = false;
        preset = None;
      }) ∷
      (record {
        name = (codes "k");
        place = (record { file = 3; line = 4 });
        statement = 0;
        owner = (owner.Module 3);
        ty = types.long;
        named = types.long;
        qualified = false;
        lettered = None;
        bounds = ([]);
        auto = false;
        preset = None;
      }) ∷
      (record {
        name = (codes "n");
        place = (record { file = 3; line = 6 });
        statement = 1;
        owner = (owner.Value (record {
          0
              = 3;
        }));
        ty = types.long;
        named = types.long;
        qualified = false;
        lettered = None;
        bounds = ([]);
        auto = false;
        preset
            = None;
      }) ∷
      (record {
        name = (codes "Twice");
        place = (record { file = 3; line = 6 });
        statement = 1;
        owner = (owner.Answer (record
            { 0 = 3 }));
        ty = types.long;
        named = types.long;
        qualified = false;
        lettered = None;
        bounds = ([]);
        auto = false;
        preset
            = None;
      }) ∷ []);
  consts = ([]);
  procs = (
      (record {
        name = (codes "Inc");
        place = (record { file = 1; line = 1 });
        module_number = 1;
        kind = kind.Sub;
        visibility
            = visible.Public;
        params = ((record { 0 = 0 }) ∷ []);
        result = types.nothing;
        answer = None;
        first = (record { 0 = 0 });
      }) ∷
      (record {
        name = (codes "Main");
        place = (record { file = 1; line = 5 });
        module_number = 1;
        kind = kind.Sub;
        visibility
            = visible.Public;
        params = ([]);
        result = types.nothing;
        answer = None;
        first = (record { 0 = 1 });
      }) ∷
      (record {
        name = (codes "Make");
        place = (record { file = 2; line = 12 });
        module_number = 2;
        kind = kind.Function;
        visibility
            = visible.Public;
        params = ((record { 0 = 7 }) ∷ []);
        result = (types.user 1);
        answer = (Some (record { 0 = 8 }));
        first
            = (record { 0 = 2 });
      }) ∷
      (record {
        name = (codes "Twice");
        place = (record { file = 3; line = 6 });
        module_number = 3;
        kind = kind.Function;
        visibility
            = visible.Public;
        params = ((record { 0 = 10 }) ∷ []);
        result = types.long;
        answer = (Some (record { 0 = 11 }));
        first
            = (record { 0 = 3 });
      }) ∷ []);
  types = (
      (record {
        name = (codes "Inner");
        place = (record { file = 2; line = 1 });
        «module» = 2;
        fields = ((record { 0 = 1 })
            ∷ []);
      }) ∷
      (record {
        name = (codes "Point");
        place = (record { file = 2; line = 4 });
        «module» = 2;
        fields = ((record { 0 = 2 })
            ∷ (record { 0 = 3 }) ∷ (record { 0 = 4 }) ∷ []);
      }) ∷ []);
  enums = ([]);
  defaults = (None ∷ []);
})

abbrev pub body_0 : List bound.Line
body_0 = (
    (record {
      source = (record {
        place = (record { file = 1; line = 2 });
        text = (codes "n = n + 1");
        form = (vb.assign (vb.word
            (codes "n") suffix.Absent) (vb.binary bin.Add (vb.word (codes "n") suffix.Absent) (vb.lit (literal.Int (pos 1) false))));
      });
      bindings = (record {
        exprs = ((bound.typed types.long (bound.variable (record { 0 = 0 }) false)) ∷ (bound.typed types.long
            (bound.binary bin.Add (bound.typed types.long (bound.variable (record { 0 = 0 }) false)) (bound.typed types.long (bound.convert
            types.long (bound.typed types.integer (bound.constant (value.Int (pos 1)) origin.Literal)))))) ∷ []);
        rules = (record
            { bits = 0 });
        mentions = ((mention.Var (record { 0 = 0 })) ∷ (mention.Var (record { 0 = 0 })) ∷ []);
      });
    }) ∷ [])

abbrev pub body_1 : List bound.Line
body_1 = (
    (record {
      source = (record {
        place = (record { file = 1; line = 6 });
        text = (codes "Other.P.X = 5");
        form = (vb.assign
            (vb.member (vb.member (vb.word (codes "Other") suffix.Absent) (codes "P")) (codes "X")) (vb.lit (literal.Int (pos 5) false)));
      });
      bindings = (record {
        exprs = ((bound.typed types.long (bound.field (bound.typed (types.user 1) (bound.variable (record
            { 0 = 5 }) true)) 0)) ∷ (bound.typed types.long (bound.convert types.long (bound.typed types.integer (bound.constant (value.Int
            (pos 5)) origin.Literal)))) ∷ []);
        rules = (record { bits = 0 });
        mentions = ((mention.Var (record { 0 = 2 })) ∷ (mention.Var
            (record { 0 = 5 })) ∷ []);
      });
    }) ∷
    (record {
      source = (record {
        place = (record { file = 1; line = 7 });
        text = (codes "P.Y = Other.P.X + 1");
        form = (vb.assign
            (vb.member (vb.word (codes "P") suffix.Absent) (codes "Y")) (vb.binary bin.Add (vb.member (vb.member (vb.word (codes "Other")
            suffix.Absent) (codes "P")) (codes "X")) (vb.lit (literal.Int (pos 1) false))));
      });
      bindings = (record {
        exprs = ((bound.typed
            types.long (bound.field (bound.typed (types.user 1) (bound.variable (record { 0 = 5 }) false)) 1)) ∷ (bound.typed types.long
            (bound.binary bin.Add (bound.typed types.long (bound.field (bound.typed (types.user 1) (bound.variable (record {
              0 = 5;
            }) true)) 0)) (bound.typed types.long (bound.convert types.long (bound.typed types.integer (bound.constant (value.Int
            (pos 1)) origin.Literal)))))) ∷ []);
        rules = (record { bits = 0 });
        mentions = ((mention.Var (record { 0 = 3 })) ∷ (mention.Var
            (record { 0 = 5 })) ∷ (mention.Var (record { 0 = 2 })) ∷ (mention.Var (record { 0 = 5 })) ∷ []);
      });
    }) ∷
    (record {
      source = (record {
        place = (record { file = 1; line = 8 });
        text = (codes "Inc Other.P.X");
        form = (vb.invoke
            (vb.word (codes "Inc") suffix.Absent) (vb.next_arg None false (vb.given (vb.member (vb.member (vb.word (codes "Other")
            suffix.Absent) (codes "P")) (codes "X"))) vb.no_args));
      });
      bindings = (record {
        exprs = ((bound.typed types.nothing (bound.call
            (record { 0 = 0 }) false bound.no_object (bound.next_passed (bound.by_reference (bound.typed types.long (bound.field (bound.typed
            (types.user 1) (bound.variable (record { 0 = 5 }) true)) 0))) bound.no_passed))) ∷ []);
        rules = (record { bits = 0 });
        mentions = ((mention.Proc (record { 0 = 0 })) ∷ (mention.Var (record { 0 = 2 })) ∷ (mention.Var (record { 0 = 5 })) ∷
            []);
      });
    }) ∷
    (record {
      source = (record {
        place = (record { file = 1; line = 9 });
        text = (codes "Inc P.Q.Z");
        form = (vb.invoke (vb.word
            (codes "Inc") suffix.Absent) (vb.next_arg None false (vb.given (vb.member (vb.member (vb.word (codes "P") suffix.Absent)
            (codes "Q")) (codes "Z"))) vb.no_args));
      });
      bindings = (record {
        exprs = ((bound.typed types.nothing (bound.call (record
            { 0 = 0 }) false bound.no_object (bound.next_passed (bound.by_reference (bound.typed types.long (bound.field (bound.typed
            (types.user 0) (bound.field (bound.typed (types.user 1) (bound.variable (record { 0 = 5 }) false)) 2)) 0))) bound.no_passed)))
            ∷ []);
        rules = (record { bits = 0 });
        mentions = ((mention.Proc (record { 0 = 0 })) ∷ (mention.Var (record { 0 = 1 }))
            ∷ (mention.Var (record { 0 = 4 })) ∷ (mention.Var (record { 0 = 5 })) ∷ []);
      });
    }) ∷
    (record {
      source = (record {
        place = (record { file = 1; line = 10 });
        text = (codes "Debug.Print Other.P.X; P.Y; Other.P.Q.Z");
        form = (vb.debug_print ((vb.member (vb.member (vb.word (codes "Other") suffix.Absent) (codes "P")) (codes "X")) ∷ (vb.member
            (vb.word (codes "P") suffix.Absent) (codes "Y")) ∷ (vb.member (vb.member (vb.member (vb.word (codes "Other") suffix.Absent)
            (codes "P")) (codes "Q")) (codes "Z")) ∷ []) false);
      });
      bindings = (record {
        exprs = ((bound.typed types.long (bound.field
            (bound.typed (types.user 1) (bound.variable (record { 0 = 5 }) true)) 0)) ∷ (bound.typed types.long (bound.field (bound.typed
            (types.user 1) (bound.variable (record { 0 = 5 }) false)) 1)) ∷ (bound.typed types.long (bound.field (bound.typed (types.user
            0) (bound.field (bound.typed (types.user 1) (bound.variable (record { 0 = 5 }) true)) 2)) 0)) ∷ []);
        rules = (record {
          bits = 0;
        });
        mentions = ((mention.Var (record { 0 = 2 })) ∷ (mention.Var (record { 0 = 5 })) ∷ (mention.Var (record {
          0 = 3;
        })) ∷ (mention.Var (record { 0 = 5 })) ∷ (mention.Var (record { 0 = 1 })) ∷ (mention.Var (record { 0 = 4 })) ∷ (mention.Var
            (record { 0 = 5 })) ∷ []);
      });
    }) ∷
    (record {
      source = (record {
        place = (record { file = 1; line = 11 });
        text = (codes "Set Other.O = New Node");
        form =
            (vb.set (vb.member (vb.word (codes "Other") suffix.Absent) (codes "O")) (vb.new_object (codes "Node")));
      });
      bindings =
          (record {
            exprs = ((bound.typed (types.class 0) (bound.variable (record { 0 = 6 }) true)) ∷ (bound.typed (types.class
                0) (bound.new_object (record { 0 = 0 }))) ∷ []);
            rules = (record { bits = 0 });
            mentions = ((mention.Var (record {
              0 =
                  6;
            })) ∷ (mention.Class (record { 0 = 0 })) ∷ []);
          });
    }) ∷
    (record {
      source = (record {
        place = (record { file = 1; line = 12 });
        text = (codes "Other.O.k = 3");
        form = (vb.assign
            (vb.member (vb.member (vb.word (codes "Other") suffix.Absent) (codes "O")) (codes "k")) (vb.lit (literal.Int (pos 3) false)));
      });
      bindings = (record {
        exprs = ((bound.typed types.long (bound.field (bound.typed (types.class 0) (bound.variable (record
            { 0 = 6 }) true)) 0)) ∷ (bound.typed types.long (bound.convert types.long (bound.typed types.integer (bound.constant (value.Int
            (pos 3)) origin.Literal)))) ∷ []);
        rules = (record { bits = 0 });
        mentions = ((mention.Var (record { 0 = 9 })) ∷ (mention.Var
            (record { 0 = 6 })) ∷ []);
      });
    }) ∷
    (record {
      source = (record {
        place = (record { file = 1; line = 13 });
        text = (codes "Debug.Print Other.O.k; O.Twice(2); Make(4).X; Other.Make(5).Q.Z");
        form = (vb.debug_print ((vb.member (vb.member (vb.word (codes "Other") suffix.Absent) (codes "O")) (codes "k")) ∷ (vb.index
            (vb.member (vb.word (codes "O") suffix.Absent) (codes "Twice")) (vb.next_arg None false (vb.given (vb.lit (literal.Int
            (pos 2) false))) vb.no_args)) ∷ (vb.member (vb.index (vb.word (codes "Make") suffix.Absent) (vb.next_arg None false (vb.given
            (vb.lit (literal.Int (pos 4) false))) vb.no_args)) (codes "X")) ∷ (vb.member (vb.member (vb.index (vb.member (vb.word
            (codes "Other") suffix.Absent) (codes "Make")) (vb.next_arg None false (vb.given (vb.lit (literal.Int (pos 5) false)))
            vb.no_args)) (codes "Q")) (codes "Z")) ∷ []) false);
      });
      bindings = (record {
        exprs = ((bound.typed types.long (bound.field
            (bound.typed (types.class 0) (bound.variable (record { 0 = 6 }) true)) 0)) ∷ (bound.typed types.long (bound.call (record
            { 0 = 3 }) false (bound.of_object (bound.typed (types.class 0) (bound.variable (record { 0 = 6 }) false))) (bound.next_passed
            (bound.by_value (bound.typed types.long (bound.convert types.long (bound.typed types.integer (bound.constant (value.Int
            (pos 2)) origin.Literal))))) bound.no_passed))) ∷ (bound.typed types.long (bound.field (bound.typed (types.user 1) (bound.call
            (record { 0 = 2 }) false bound.no_object (bound.next_passed (bound.by_value (bound.typed types.long (bound.convert types.long
            (bound.typed types.integer (bound.constant (value.Int (pos 4)) origin.Literal))))) bound.no_passed))) 0)) ∷ (bound.typed
            types.long (bound.field (bound.typed (types.user 0) (bound.field (bound.typed (types.user 1) (bound.call (record {
              0 =
                  2;
            }) true bound.no_object (bound.next_passed (bound.by_value (bound.typed types.long (bound.convert types.long (bound.typed
            types.integer (bound.constant (value.Int (pos 5)) origin.Literal))))) bound.no_passed))) 2)) 0)) ∷ []);
        rules = (record
            { bits = 0 });
        mentions = ((mention.Var (record { 0 = 9 })) ∷ (mention.Var (record { 0 = 6 })) ∷ (mention.Proc (record
            { 0 = 3 })) ∷ (mention.Var (record { 0 = 6 })) ∷ (mention.Var (record { 0 = 2 })) ∷ (mention.Proc (record { 0 = 2 }))
            ∷ (mention.Var (record { 0 = 1 })) ∷ (mention.Var (record { 0 = 4 })) ∷ (mention.Proc (record { 0 = 2 })) ∷ []);
      });
    })
    ∷ [])

abbrev pub body_2 : List bound.Line
body_2 = (
    (record {
      source = (record {
        place = (record { file = 2; line = 13 });
        text = (codes "Make.X = n");
        form = (vb.assign
            (vb.member (vb.word (codes "Make") suffix.Absent) (codes "X")) (vb.word (codes "n") suffix.Absent));
      });
      bindings = (record {
        exprs = ((bound.typed types.long (bound.field (bound.typed (types.user 1) (bound.variable (record { 0 = 8 }) false))
            0)) ∷ (bound.typed types.long (bound.variable (record { 0 = 7 }) false)) ∷ []);
        rules = (record { bits = 0 });
        mentions
            = ((mention.Var (record { 0 = 2 })) ∷ (mention.Var (record { 0 = 8 })) ∷ (mention.Var (record { 0 = 7 })) ∷ []);
      });
    })
    ∷
    (record {
      source = (record {
        place = (record { file = 2; line = 14 });
        text = (codes "Make.Q.Z = n * 2");
        form = (vb.assign
            (vb.member (vb.member (vb.word (codes "Make") suffix.Absent) (codes "Q")) (codes "Z")) (vb.binary bin.Mul (vb.word (codes
            "n") suffix.Absent) (vb.lit (literal.Int (pos 2) false))));
      });
      bindings = (record {
        exprs = ((bound.typed types.long (bound.field
            (bound.typed (types.user 0) (bound.field (bound.typed (types.user 1) (bound.variable (record { 0 = 8 }) false)) 2)) 0))
            ∷ (bound.typed types.long (bound.binary bin.Mul (bound.typed types.long (bound.variable (record { 0 = 7 }) false)) (bound.typed
            types.long (bound.convert types.long (bound.typed types.integer (bound.constant (value.Int (pos 2)) origin.Literal))))))
            ∷ []);
        rules = (record { bits = 0 });
        mentions = ((mention.Var (record { 0 = 1 })) ∷ (mention.Var (record { 0 = 4 }))
            ∷ (mention.Var (record { 0 = 8 })) ∷ (mention.Var (record { 0 = 7 })) ∷ []);
      });
    }) ∷ [])

abbrev pub body_3 : List bound.Line
body_3 = (
    (record {
      source = (record {
        place = (record { file = 3; line = 7 });
        text = (codes "Twice = n * k");
        form = (vb.assign
            (vb.word (codes "Twice") suffix.Absent) (vb.binary bin.Mul (vb.word (codes "n") suffix.Absent) (vb.word (codes "k") suffix.Absent)));
      });
      bindings = (record {
        exprs = ((bound.typed types.long (bound.variable (record { 0 = 11 }) false)) ∷ (bound.typed types.long
            (bound.binary bin.Mul (bound.typed types.long (bound.variable (record { 0 = 10 }) false)) (bound.typed types.long (bound.variable
            (record { 0 = 9 }) false)))) ∷ []);
        rules = (record { bits = 0 });
        mentions = ((mention.Var (record { 0 = 11 })) ∷ (mention.Var
            (record { 0 = 10 })) ∷ (mention.Var (record { 0 = 9 })) ∷ []);
      });
    }) ∷ [])

abbrev pub bodies : List (List bound.Line)
bodies = body_0 ∷ body_1 ∷ body_2 ∷ body_3 ∷ []

abbrev pub program : bound.Program
program = record { declarations = declarations; bodies = bodies }

abbrev pub quiet : List (List Bool)
quiet = ((false ∷ []) ∷ ([]) ∷ (false ∷ []) ∷ (false ∷ []) ∷ [])

abbrev pub lows : List (VarId × ℤ × ℤ)
lows = ([])

abbrev pub clean : List Bool
clean = (true ∷ true ∷ true ∷ true ∷ [])

abbrev pub written : net.Project
written = (record {
  library = false;
  main = (Some (codes "Main1"));
  note = None;
  modules = ((record {
    name = (codes "Main1");
    class = false;
    members = (
        (net.proc (record {
          head = (net.sub net_visible.Public (codes "Inc") ((record {
            passing = net_passing.Reference;
            name
                = (codes "n");
            ty = net_types.integer;
          }) ∷ []));
          prologue = ([]);
          lines = (
              (net.assign (net.path ((codes "n") ∷ [])) (net.binary net_bin.Add (net.path ((codes "n") ∷ [])) (net.lit (net.integer
              (pos 1) false)))) ∷ []);
          close = close.EndSub;
        })) ∷
        (net.proc (record {
          head = (net.sub net_visible.Public (codes "Main") ([]));
          prologue = ([]);
          lines = (
              (net.assign (net.path ((codes "Other") ∷ (codes "P") ∷ (codes "X") ∷ [])) (net.lit (net.integer (pos 5) false))) ∷
              (net.assign (net.path ((codes "Other") ∷ (codes "P") ∷ (codes "Y") ∷ [])) (net.binary net_bin.Add (net.path ((codes "Other")
              ∷ (codes "P") ∷ (codes "X") ∷ [])) (net.lit (net.integer (pos 1) false)))) ∷
              (net.call (net.path ((codes "Inc") ∷ [])) (net.next_exp (net.path ((codes "Other") ∷ (codes "P") ∷ (codes "X") ∷ []))
              net.no_exps)) ∷
              (net.call (net.path ((codes "Inc") ∷ [])) (net.next_exp (net.path ((codes "Other") ∷ (codes "P") ∷ (codes "Q") ∷ (codes
              "Z") ∷ [])) net.no_exps)) ∷
              (net.call (net.path ((codes "UpgradeSupport") ∷ (codes "PrintLine") ∷ [])) (net.next_exp (net.binary net_bin.Concat (net.binary
              net_bin.Concat (net.call_of (net.path ((codes "UpgradeSupport") ∷ (codes "PrintNum") ∷ [])) (net.next_exp (net.cast cast.CDec
              (net.path ((codes "Other") ∷ (codes "P") ∷ (codes "X") ∷ []))) net.no_exps)) (net.call_of (net.path ((codes "UpgradeSupport")
              ∷ (codes "PrintNum") ∷ [])) (net.next_exp (net.cast cast.CDec (net.path ((codes "Other") ∷ (codes "P") ∷ (codes "Y") ∷
              []))) net.no_exps))) (net.call_of (net.path ((codes "UpgradeSupport") ∷ (codes "PrintNum") ∷ [])) (net.next_exp (net.cast
              cast.CDec (net.path ((codes "Other") ∷ (codes "P") ∷ (codes "Q") ∷ (codes "Z") ∷ []))) net.no_exps))) net.no_exps)) ∷
              (net.assign (net.path ((codes "Other") ∷ (codes "O") ∷ [])) (net.new_object (net_types.named ((codes "Node") ∷ [])) net.no_exps))
              ∷
              (net.assign (net.path ((codes "Other") ∷ (codes "O") ∷ (codes "k") ∷ [])) (net.lit (net.integer (pos 3) false))) ∷
              (net.call (net.path ((codes "UpgradeSupport") ∷ (codes "PrintLine") ∷ [])) (net.next_exp (net.binary net_bin.Concat (net.binary
              net_bin.Concat (net.binary net_bin.Concat (net.call_of (net.path ((codes "UpgradeSupport") ∷ (codes "PrintNum") ∷ []))
              (net.next_exp (net.cast cast.CDec (net.path ((codes "Other") ∷ (codes "O") ∷ (codes "k") ∷ []))) net.no_exps)) (net.call_of
              (net.path ((codes "UpgradeSupport") ∷ (codes "PrintNum") ∷ [])) (net.next_exp (net.cast cast.CDec (net.call_of (net.path
              ((codes "Other") ∷ (codes "O") ∷ (codes "Twice") ∷ [])) (net.next_exp (net.lit (net.integer (pos 2) false)) net.no_exps)))
              net.no_exps))) (net.call_of (net.path ((codes "UpgradeSupport") ∷ (codes "PrintNum") ∷ [])) (net.next_exp (net.cast cast.CDec
              (net.dot (net.call_of (net.path ((codes "Other") ∷ (codes "Make") ∷ [])) (net.next_exp (net.lit (net.integer (pos 4) false))
              net.no_exps)) (codes "X"))) net.no_exps))) (net.call_of (net.path ((codes "UpgradeSupport") ∷ (codes "PrintNum") ∷ []))
              (net.next_exp (net.cast cast.CDec (net.dot (net.dot (net.call_of (net.path ((codes "Other") ∷ (codes "Make") ∷ [])) (net.next_exp
              (net.lit (net.integer (pos 5) false)) net.no_exps)) (codes "Q")) (codes "Z"))) net.no_exps))) net.no_exps)) ∷ []);
          close
              = close.EndSub;
        })) ∷ []);
  }) ∷ (record {
    name = (codes "Other");
    class = false;
    members = (
        (net.structure (record { name = (codes "Inner"); fields = ((net.field (codes "Z") net_types.integer) ∷ []) })) ∷
        (net.structure (record {
          name = (codes "Point");
          fields = ((net.field (codes "X") net_types.integer) ∷ (net.field (codes
              "Y") net_types.integer) ∷ (net.field (codes "Q") (net_types.named ((codes "Inner") ∷ []))) ∷ []);
        })) ∷
        (net.variable net_visible.Public (record {
          name = (codes "P");
          ty = (net_types.named ((codes "Point") ∷ []));
          value =
              None;
        })) ∷
        (net.variable net_visible.Public (record {
          name = (codes "O");
          ty = (net_types.named ((codes "Node") ∷ []));
          value = None;
        })) ∷
        (net.proc (record {
          head = (net.function net_visible.Public (codes "Make") ((record {
            passing = net_passing.Value;
            name
                = (codes "n");
            ty = net_types.integer;
          }) ∷ []) (net_types.named ((codes "Point") ∷ [])));
          prologue = ([]);
          lines = (
              (net.assign (net.path ((codes "Make") ∷ (codes "X") ∷ [])) (net.path ((codes "n") ∷ []))) ∷
              (net.assign (net.path ((codes "Make") ∷ (codes "Q") ∷ (codes "Z") ∷ [])) (net.binary net_bin.Mul (net.path ((codes "n")
              ∷ [])) (net.lit (net.integer (pos 2) false)))) ∷ []);
          close = close.EndFunction;
        })) ∷ []);
  }) ∷ (record {
    name = (codes
        "Node");
    class = true;
    members = (
        (net.variable net_visible.Public (record { name = (codes "k"); ty = net_types.integer; value = None })) ∷
        (net.proc (record {
          head = (net.function net_visible.Public (codes "Twice") ((record {
            passing = net_passing.Value;
            name
                = (codes "n");
            ty = net_types.integer;
          }) ∷ []) net_types.integer);
          prologue = ([]);
          lines = (
              (net.assign (net.path ((codes "Twice") ∷ [])) (net.binary net_bin.Mul (net.path ((codes "n") ∷ [])) (net.path ((codes
              "k") ∷ [])))) ∷ []);
          close = close.EndFunction;
        })) ∷ []);
  }) ∷ []);
  support = (record {
    name = (codes "UpgradeSupport");
    class = false;
    members = (
        (net.proc (record {
          head = (net.sub net_visible.Public (codes "PrintLine") ((record {
            passing = net_passing.Value;
            name
                = (codes "s");
            ty = net_types.str;
          }) ∷ []));
          prologue = ([]);
          lines = (
              (net.call (net.path ((codes "System") ∷ (codes "Console") ∷ (codes "WriteLine") ∷ [])) (net.next_exp (net.path ((codes
              "s") ∷ [])) net.no_exps)) ∷ []);
          close = close.EndSub;
        })) ∷
        (net.proc (record {
          head = (net.function net_visible.Public (codes "CurText") ((record {
            passing = net_passing.Value;
            name = (codes "d");
            ty = net_types.decimal;
          }) ∷ []) net_types.str);
          prologue = ([]);
          lines = (
              (net.assign (net.path ((codes "CurText") ∷ [])) (net.call_of (net.path ((codes "d") ∷ (codes "ToString") ∷ [])) (net.next_exp
              (net.lit (net.str (codes "0.####"))) (net.next_exp (net.path ((codes "System") ∷ (codes "Globalization") ∷ (codes "CultureInfo")
              ∷ (codes "InvariantCulture") ∷ [])) net.no_exps)))) ∷ []);
          close = close.EndFunction;
        })) ∷
        (net.proc (record {
          head = (net.function net_visible.Public (codes "PrintNum") ((record {
            passing = net_passing.Value;
            name = (codes "d");
            ty = net_types.decimal;
          }) ∷ []) net_types.str);
          prologue = ([]);
          lines = (
              (net.if_head (net.binary net_bin.Less (net.path ((codes "d") ∷ [])) (net.lit (net.decimal (pos 0))))) ∷
              (net.assign (net.path ((codes "PrintNum") ∷ [])) (net.binary net_bin.Concat (net.call_of (net.path ((codes "CurText")
              ∷ [])) (net.next_exp (net.path ((codes "d") ∷ [])) net.no_exps)) (net.lit (net.str (codes " "))))) ∷
              net.else_line ∷
              (net.assign (net.path ((codes "PrintNum") ∷ [])) (net.binary net_bin.Concat (net.binary net_bin.Concat (net.lit (net.str
              (codes " "))) (net.call_of (net.path ((codes "CurText") ∷ [])) (net.next_exp (net.path ((codes "d") ∷ [])) net.no_exps)))
              (net.lit (net.str (codes " "))))) ∷
              net.end_if ∷ []);
          close = close.EndFunction;
        })) ∷ []);
  });
})

abbrev pub runnable : Runnable
runnable = runnable_of program quiet lows

said : ran runnable 1 2000 ≡ (
  line (codes " 6  6  1 ")
      ++ line (codes " 3  6  4  10 "),
  ended,
)
unfolding digits
said = refl

said_written : ran_written written 1 2000 ≡ (
  line (codes " 6  6  1 ")
      ++ line (codes " 3  6  4  10 "),
  ended,
)
unfolding digits
said_written = refl
