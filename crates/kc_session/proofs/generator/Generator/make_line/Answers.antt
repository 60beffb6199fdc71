use Rattle.kc_session.proofs.LoadLemmas.{format_made, vertices_made, first_ask_made, second_ask_made}
use Rattle.kc_session.proofs.generator.Generator.make_line.Goals as goal

pub returns-in-Format : goal.returns-in-Format
returns-in-Format c = format_made c.args.self.now _ _ c.in-Format.is c.clear.ensures c.put_text.ensures.text

pub returns-in-Vertices : goal.returns-in-Vertices
returns-in-Vertices c = vertices_made c.args.self.now _ c.in-Vertices.is c.fill_vertices.ensures

pub returns-in-FirstAsk : goal.returns-in-FirstAsk
returns-in-FirstAsk c = first_ask_made c.args.self.now _ c.in-FirstAsk.is c.fill_ask.ensures

pub returns-in-SecondAsk : goal.returns-in-SecondAsk
returns-in-SecondAsk c = second_ask_made c.args.self.now _ c.in-SecondAsk.is c.fill_ask-in-SecondAsk.ensures
