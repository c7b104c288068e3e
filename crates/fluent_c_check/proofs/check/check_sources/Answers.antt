use Rattle.std.proofs.Common.{arith}
use Rattle.fluent_c_check.specs.declared.handed.Bytes.{Bytes}
use Rattle.fluent_c_check.proofs.Given.{gives}
use Rattle.fluent_c_check.proofs.check.check_sources.Goals as goal

pub returns-then-needed-room : goal.returns-then-needed-room
returns-then-needed-room c =
    let bytes : Bytes = record { language = c.args.language; sources = c.args.sources; beside = c.args.beside; references = c.args.references; functions = c.args.functions } in
    record {
      given = λ low. gives bytes c.args.as_json c.in-Ok.report c.as_str.result.now c.args.out.now c.put_text-needed.new.buffer c.put_text-needed.result
          c.as_str.ensures.value c.put_text-needed.ensures c.in-Ok.ensures.ok;
      fits = λ zero. omega arith;
      short = λ one. absurd (omega arith);
      refused = λ above. absurd (omega arith);
      stays = λ above. absurd (omega arith);
    }

pub returns-in-Ok : goal.returns-in-Ok
returns-in-Ok c =
    let bytes : Bytes = record { language = c.args.language; sources = c.args.sources; beside = c.args.beside; references = c.args.references; functions = c.args.functions } in
    record {
      given = λ low. gives bytes c.args.as_json c.in-Ok.report c.as_str.result.now c.args.out.now c.put_text-needed.new.buffer c.put_text-needed.result
          c.as_str.ensures.value c.put_text-needed.ensures c.in-Ok.ensures.ok;
      fits = λ zero. absurd (omega arith);
      short = λ one. omega arith;
      refused = λ above. absurd (omega arith);
      stays = λ above. absurd (omega arith);
    }
