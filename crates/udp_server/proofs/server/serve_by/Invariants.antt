use Rattle.udp_server.specs.OrderNumbers.{order_numbers}
use Rattle.udp_server.proofs.server.serve_by.Given as goal

-- the orders are those of the crew
abbrev pub ghosts-run : goal.ghosts-run
ghosts-run g a = record { numbers = order_numbers a.crew.orders }
