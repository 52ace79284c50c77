-- The words of the reasons for which a text is refused.
use Rattle.std.specs.Prelude.{ℕ, List, codes}
use Rattle.tk_types.specs.declared.why.Why.{Why}
use Rattle.tk_types.specs.declared.why.Why.TheVariants as whys

unfoldable pub why_text : Why → List ℕ
why_text whys.Long = codes "long"
why_text whys.Byte = codes "byte"
why_text whys.Line = codes "line"
why_text whys.Head = codes "head"
why_text whys.Order = codes "order"
why_text whys.Word = codes "word"
why_text whys.Count = codes "count"
why_text whys.Number = codes "number"
why_text whys.Name = codes "name"
why_text whys.List = codes "list"
why_text whys.End = codes "end"
why_text whys.Unknown = codes "unknown"
why_text whys.Kind = codes "kind"
why_text whys.Journal = codes "journal"
why_text whys.Trace = codes "trace"
