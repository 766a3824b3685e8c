use Rattle.std.specs.{Prelude.{encode_utf8}, List.{repeat}}
use Rattle.pad_fmt.specs.Sink.{Took}
use Rattle.pad_fmt.proofs.padding.write_repeated.Given as goal

abbrev pub invariant-loop : goal.invariant-loop
invariant-loop g l = Took g.S.TextSink.text g.S.TextSink.room l.fn.out l.out (repeat l.counter (encode_utf8 l.c))
