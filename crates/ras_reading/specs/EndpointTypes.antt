-- What an endpoint is (H.225.0, EndpointType). It is read and dropped.
use Rattle.ras_grammar.specs.Grammar.{Grammar, ◌>>=◌, boolean, if◌equals◌take◌else◌, skipped}
use Rattle.ras_grammar.specs.Sequences.{list_skipped, choice, skipped_additions, sized_octet_string}
use Rattle.ras_grammar.specs.Sequences.{h221_non_standard, non_standard_parameter}

-- VendorIdentifier: vendor, productId?, versionId?
unfoldable pub vendor_identifier : Grammar (Unit {0})
vendor_identifier = do
  extended ← boolean
  has_product ← boolean
  has_version ← boolean
  vendor ← h221_non_standard
  product ← skipped has_product (sized_octet_string 1 256)
  version ← skipped has_version (sized_octet_string 1 256)
  skipped_additions extended

-- GatekeeperInfo, McuInfo, TerminalInfo, H310Caps and the like: nonStandardData?
unfoldable pub node_info : Grammar (Unit {0})
node_info = do
  extended ← boolean
  has_non_standard_data ← boolean
  non_standard_data ← skipped has_non_standard_data non_standard_parameter
  skipped_additions extended

-- SupportedProtocols: nonStandardData; h310, h320, h321, h322, h323, h324, voice, t120-only
unfoldable pub supported_protocols : Grammar (Unit {0})
supported_protocols = choice 8 tt (λ index.
    if index equals 0 take non_standard_parameter
    else node_info)

-- SEQUENCE OF SupportedProtocols
unfoldable pub protocols : Grammar (Unit {0})
protocols = list_skipped supported_protocols

-- GatewayInfo: protocol?, nonStandardData?
unfoldable pub gateway_info : Grammar (Unit {0})
gateway_info = do
  extended ← boolean
  has_protocol ← boolean
  has_non_standard_data ← boolean
  protocol ← skipped has_protocol protocols
  non_standard_data ← skipped has_non_standard_data non_standard_parameter
  skipped_additions extended

-- EndpointType: nonStandardData?, vendor?, gatekeeper?, gateway?, mcu?, terminal?, mc,
-- undefinedNode
unfoldable pub endpoint_type : Grammar (Unit {0})
endpoint_type = do
  extended ← boolean
  has_non_standard_data ← boolean
  has_vendor ← boolean
  has_gatekeeper ← boolean
  has_gateway ← boolean
  has_mcu ← boolean
  has_terminal ← boolean
  non_standard_data ← skipped has_non_standard_data non_standard_parameter
  vendor ← skipped has_vendor vendor_identifier
  gatekeeper ← skipped has_gatekeeper node_info
  gateway ← skipped has_gateway gateway_info
  mcu ← skipped has_mcu node_info
  terminal ← skipped has_terminal node_info
  mc ← boolean
  undefined_node ← boolean
  skipped_additions extended
