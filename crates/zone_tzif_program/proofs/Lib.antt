mod FaultWordRows
